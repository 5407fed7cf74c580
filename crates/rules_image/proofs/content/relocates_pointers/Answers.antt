use Rattle.std.proofs.Common.{◌≡◌, ◌<◌, ◌≤◌, ℕ, ap, arith, get_or, length, subst}
use Rattle.std.specs.Prelude.{Some, slice_get}
use Rattle.rules_image.proofs.ContentLemmas.{read_at, relocates_all, relocates_more, relocates_not, relocates_past}
use Rattle.rules_image.proofs.RangesLemmas.{holds}
use Rattle.rules_image.proofs.Disjoint.{refuted}
use Rattle.rules_image.proofs.content.relocates_pointers.Goals as goal

pub returns-then-end-relocs : goal.returns-then-end-relocs
returns-then-end-relocs c =
    let r : ℕ = get_or c.as_slice-relocs.result.now c.loop-number.number 0 in
    let there : slice_get c.args.image.now.relocs c.loop-number.number ≡ Some r =
    read_at c.args.image.now.relocs c.as_slice-relocs.result.now c.loop-number.number c.as_slice-relocs.ensures (omega arith) in
    holds (relocates_past c.args.image.now c.args.x.now c.args.s.now c.requires.image c.loop-number.number r there
    (subst (λ z. z ≤ r) c.requires.end c.if-end-relocs.true)
    c.loop-number.invariant)

pub returns-then-not-is_pointer_place : goal.returns-then-not-is_pointer_place
returns-then-not-is_pointer_place c =
    let r : ℕ = get_or c.as_slice-relocs.result.now c.loop-number.number 0 in
    let there : slice_get c.args.image.now.relocs c.loop-number.number ≡ Some r =
    read_at c.args.image.now.relocs c.as_slice-relocs.result.now c.loop-number.number c.as_slice-relocs.ensures (omega arith) in
    refuted (relocates_not c.args.image.now c.args.x.now c.args.s.now c.first_reloc-number.result c.loop-number.number r
    c.first_reloc-number.ensures c.loop-number.auto.number there
    (subst (λ z. r < z) c.requires.end c.if-end-relocs.false)
    (λ h. let yes = c.is_pointer_place.ensures.1 h in let is = c.if-not-is_pointer_place.true in cc))

pub loop-number-preserved : goal.loop-number-preserved
loop-number-preserved c =
    let r : ℕ = get_or c.as_slice-relocs.result.now c.loop-number.number 0 in
    let there : slice_get c.args.image.now.relocs c.loop-number.number ≡ Some r =
    read_at c.args.image.now.relocs c.as_slice-relocs.result.now c.loop-number.number c.as_slice-relocs.ensures (omega arith) in
    relocates_more c.args.image.now c.args.x.now c.args.s.now c.loop-number.number r there
    (c.is_pointer_place.ensures.0 c.if-not-is_pointer_place.false) c.loop-number.invariant

pub returns : goal.returns
returns c =
    let same : length c.as_slice-relocs.result.now ≡ length c.args.image.now.relocs = ap length c.as_slice-relocs.ensures in
    holds (relocates_all c.args.image.now c.args.x.now c.args.s.now c.loop-number.number (omega arith) c.loop-number.invariant)
