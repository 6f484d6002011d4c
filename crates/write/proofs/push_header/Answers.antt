-- `push_header` writes the fields of the header. Assumes nothing.
use Rattle.packing.specs.Packing.{fields_of}
use Rattle.picture.specs.Layout.{header_widths}
use Rattle.picture.specs.Answers.{header_values}
use Rattle.write.specs.Fields.{header_fields}
use Rattle.write.proofs.Tails.{follows_more}
use Rattle.write.proofs.push_header.Goals as goal
use Rattle.write.proofs.push_header.Goals.{Start}

pub returns : goal.returns
unfolding header_fields header_widths header_values fields_of
returns c =
    let counts = follows_more c.push-5.ensures.follows (follows_more c.push-6.ensures.follows c.push-7.ensures.follows) in
    let sizes = follows_more c.push-2.ensures.follows (follows_more c.push-3.ensures.follows (follows_more c.push-4.ensures.follows counts)) in
    let all = follows_more c.push.ensures.follows sizes in
    record { end = all.end; put = all.put }
