-- Goals of `host_rewrites::vaimalofo_rewrite`. Assumes nothing.
use Rattle.std.proofs.Common.{◌≡◌, ◌*◌, ◌^◌, ◌<◌, arith, rules}
use Rattle.item_words.specs.Again.{rewritten}
use Rattle.host_rewrites.proofs.Laws.{of_word, rewritten_fits}
use Rattle.host_rewrites.proofs.vaimalofo_rewrite.Goals as goal

pub returns : goal.returns
returns c =
    let word = c.args.word in
    let small : word < 2 ^ 32 = search rules in
    let is : c.map_or_else.result ≡ rewritten word * 256 = of_word word _ small c.read_word.ensures c.write_item.ensures _ c.map_or_else.ensures (λ f h. search rules) in
    omega (arith, rewritten_fits word small)
