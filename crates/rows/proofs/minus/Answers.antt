-- `minus` takes one row's marks from another's, word by word. Assumes nothing.
use Rattle.std.proofs.Common.{rules}
use Rattle.rows.proofs.Marks.{minus_made}
use Rattle.rows.proofs.minus.Goals as goal

pub returns : goal.returns
returns c = minus_made c.word_by_word.ensures.2 c.word_by_word.ensures.1 c.requires (λ i. search rules) (λ i w. search rules)
