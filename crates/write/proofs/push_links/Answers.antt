-- `push_links` writes the links or the service links, row by row. Assumes nothing.
use borrow.Author.Rules.{rules}
use Rattle.write.proofs.Rows.{pair_count, pair_row}
use Rattle.write.proofs.push_links.Goals as goal

-- both widths are the constant
pub returns-then-to_bits-eq-LOCATION_BITS : goal.returns-then-to_bits-eq-LOCATION_BITS
returns-then-to_bits-eq-LOCATION_BITS c =
    let pairs = c.args.pairs.now in
    rw (c.if-from_bits-eq-LOCATION_BITS.true, c.if-to_bits-eq-LOCATION_BITS.true)
    (c.push_rows.ensures _ (record { count = pair_count 8 8 pairs; row = λ i r l e. pair_row 8 8 pairs l (search rules) (search rules) }))

pub returns : goal.returns
returns c =
    let a = c.args in
    let pairs = a.pairs.now in
    c.push_rows-2.ensures _
    (record {
      count = pair_count a.from_bits a.to_bits pairs;
      row = λ i r l e. pair_row a.from_bits a.to_bits pairs l (search rules) (search rules);
    })
