-- `put_block_line` puts the block, its loss and its mark. Assumes nothing.
use Rattle.listing.specs.Listing.{block_word, lost_word, mark_word, line_end, block_line}
use Rattle.listing.proofs.Texts.{text_then}
use Rattle.listing.proofs.Text.put_block_line.Goals as goal

pub returns : goal.returns
unfolding block_line block_word lost_word mark_word line_end
returns c = text_then c.put_phrase.ensures.text (text_then c.put_phrase-2.ensures.text (text_then c.put_phrase-3.ensures.text c.put_word.ensures))
