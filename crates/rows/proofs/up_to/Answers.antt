-- `up_to` sets the digits of a word up to a location's. Assumes nothing.
use Rattle.std.proofs.Common.{◌≡◌, ℕ, suc, ◌-◌, ◌*◌, ◌%◌, ◌^◌, ◌<◌, ◌∙◌, arith}
use Rattle.std.proofs.Math.Nat.{pow-suc}
use Rattle.std.proofs.Math.Pow.{pow_mono, shl_exact}
use Rattle.std.proofs.Math.Dec.{lit<}
use Rattle.rows.proofs.Ranges.{ones_up_to}
use Rattle.rows.proofs.up_to.Goals as goal

pub returns-then-v-base : goal.returns-then-v-base
returns-then-v-base c = ones_up_to _ _ 0 (λ i l h. absurd (omega arith)) (λ i l h. absurd (omega (arith, c.if-v-base.true)))

pub returns-then-base-v : goal.returns-then-base-v
returns-then-base-v c = ones_up_to _ _ 64 (λ i l h. omega (arith, c.if-base-v.true)) (λ i l h. l)

-- the word is a power of 2 less 1
power : (k : ℕ) → k < 63 → 2 * 2 ^ k % 2 ^ 64 ≡ 2 ^ suc k
power k l = shl_exact {a = 2} 2 k 64 (lit< tt) (omega arith) ∙ rw pow-suc (omega arith)

pub overflow_sub-result-2 : goal.overflow_sub-result-2
overflow_sub-result-2 c =
    let l : c.args.v - c.args.base < 63 = omega (arith, c.if-base-v.false, c.if-v-base.false) in
    rw (power _ l) (pow_mono {i = 0} (omega arith))

pub returns : goal.returns
returns c =
    let l : c.args.v - c.args.base < 63 = omega (arith, c.if-base-v.false, c.if-v-base.false) in
    rw (power _ l) (ones_up_to _ _ _ (λ i l h. omega (arith, c.if-v-base.false)) (λ i l h. omega (arith, c.if-v-base.false)))
