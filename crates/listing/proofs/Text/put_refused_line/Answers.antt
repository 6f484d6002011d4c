-- `put_refused_line` puts the number of the refusal. Assumes nothing.
use Rattle.listing.specs.Listing.{refused_word, line_end, refused_line}
use Rattle.listing.proofs.Texts.{text_then}
use Rattle.listing.proofs.Text.put_refused_line.Goals as goal

pub returns : goal.returns
unfolding refused_line refused_word line_end
returns c = rw (c.from.ensures, c.number.ensures) at (text_then c.put_phrase.ensures.text c.put_word.ensures)
