-- What steps leave of known bytes, one after the other.
use Rattle.std.proofs.Common.{ℕ, List}
use Rattle.std.specs.declared.option.Option.{Option}
use Rattle.std.specs.Io.KnownBytes.{Keeps}
use Rattle.std.proofs.KnownBytes.{Appends-trans, Appends-kept, Consumes-trans}
use Rattle.streams.specs.Streams.{OnlyTakes}
use Rattle.requests.specs.Streams.{OnlyAdds}

pub adds-more : (a b c : Option (List ℕ)) → OnlyAdds a b → OnlyAdds b c → OnlyAdds a c
adds-more a b c p q = (_, Appends-trans a b c _ _ p.1 q.1)

pub adds-kept : (a b c : Option (List ℕ)) → OnlyAdds a b → Keeps b c → OnlyAdds a c
adds-kept a b c p q = (_, Appends-kept a b c _ p.1 q)

pub takes-more : (a b c : Option (List ℕ)) → OnlyTakes a b → OnlyTakes b c → OnlyTakes a c
takes-more a b c p q = (_, Consumes-trans a b c _ _ p.1 q.1)
