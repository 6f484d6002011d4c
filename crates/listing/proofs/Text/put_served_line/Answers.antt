-- `put_served_line` puts the served weight. Assumes nothing.
use Rattle.listing.specs.Listing.{served_word, line_end, served_line}
use Rattle.listing.proofs.Texts.{text_then}
use Rattle.listing.proofs.Text.put_served_line.Goals as goal

pub returns : goal.returns
unfolding served_line served_word line_end
returns c = text_then c.put_phrase.ensures.text c.put_word.ensures
