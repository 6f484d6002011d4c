-- `put_chosen_line` puts the block and its loss. Assumes nothing.
use Rattle.listing.specs.Listing.{choose_word, lost_word, line_end}
use Rattle.listing.proofs.Texts.{text_then}
use Rattle.listing.proofs.Lines.{choice_named}
use Rattle.listing.proofs.Text.put_chosen_line.Goals as goal

pub returns : goal.returns
unfolding choose_word lost_word line_end
returns c = rw (choice_named c.requires.0) (text_then c.put_phrase.ensures.text (text_then c.put_phrase-2.ensures.text c.put_word.ensures))
