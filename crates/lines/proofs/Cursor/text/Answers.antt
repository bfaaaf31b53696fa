-- A text copied to the place. Assumes nothing.
use Rattle.std.proofs.Common.{refl, rules, arith}
use Rattle.lines.proofs.Puts.{copied}
use Rattle.lines.proofs.Cursor.text.Goals as goal

pub returns : goal.returns
returns c =
    let a = c.args in
    record {
      run = refl;
      put = record {
        past = refl;
        holds = copied a.self.now.at _ a.self.now.out.now a.text.now _ c.copy_from_slice.ensures.after (omega arith) c.requires;
        same = search rules;
        short = omega arith;
      };
    }
