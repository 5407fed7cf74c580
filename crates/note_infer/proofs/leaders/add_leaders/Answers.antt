use Rattle.note_infer.proofs.Common.{ℕ, ◌+◌, ⊎_elim, sym, subst, arith, FnNote, Image, IsDecoded, IsPlaceOf, is_decoded, not_decoded}
use Rattle.note_infer.proofs.Common.{decode_later, IsLeaderOf, Adds, IsNamedBefore}
use Rattle.ebc_decode.proofs.Numbers.{IsBytes}
use Rattle.note_infer.proofs.Gathering.{adds_none, adds_push, adds_same, before_cases, before_here, before_more, leader_from, named_at-end}
use Rattle.note_infer.proofs.Gathering.{named_at-stop, named_once, next_place, none_before}
use Rattle.note_infer.proofs.{Gathering.start_place, leaders.add_leaders.Goals.After-named_in}
use Rattle.note_infer.proofs.leaders.add_leaders.Goals as goal

pub loop-at-init : goal.loop-at-init
loop-at-init c = record {
  adds = adds_none (IsNamedBefore c.args.image.now c.args.f.now c.args.f.now.place) c.args.places.now.items
      (none_before c.args.image.now c.args.f.now);
  reached = λ less. start_place c.args.image.now c.args.f.now;
  from = omega arith;
}

pub overflow_sub-at : goal.overflow_sub-at
overflow_sub-at c = c.loop-at.invariant.from

pub returns-in_default : goal.returns-in_default
returns-in_default c =
    adds_same (IsNamedBefore c.args.image.now c.args.f.now c.loop-at.at) (IsLeaderOf c.args.image.now c.args.f.now) _ _
    c.loop-at.invariant.adds (leader_from c.args.image.now c.args.f.now c.loop-at.at)
    (λ p. named_at-stop c.args.image.now c.args.f.now c.loop-at.at p (c.loop-at.invariant.reached c.loop-at-test.true)
    (not_decoded c.args.image.now c.args.f.now c.code_of-code.result.now c.loop-at.at c.code_of-code.ensures c.loop-at.invariant.from
    (omega arith) c.in_default.ensures.none))

pub returns : goal.returns
returns c =
    adds_same (IsNamedBefore c.args.image.now c.args.f.now c.loop-at.at) (IsLeaderOf c.args.image.now c.args.f.now) _ _
    c.loop-at.invariant.adds (leader_from c.args.image.now c.args.f.now c.loop-at.at)
    (λ p. named_at-end c.args.image.now c.args.f.now c.loop-at.at p c.requires.code.range c.loop-at-test.false)

decoded : (c : After-named_in) → IsBytes c.code_of-code.result.now
    → IsDecoded c.args.image.now c.args.f.now c.loop-at.at c.in-Ok.insn (c.loop-at.at + c.in-Ok.len)
decoded c small =
    is_decoded c.args.image.now c.args.f.now c.code_of-code.result.now c.loop-at.at c.in-Ok.insn c.in-Ok.len c.code_of-code.ensures
    small c.loop-at.invariant.from (omega arith) c.in-Ok.ensures.reading c.in-Ok.ensures.length.1

pub loop-at-preserved-in_ok-push : goal.loop-at-preserved-in_ok-push
loop-at-preserved-in_ok-push c =
    let image : Image = c.args.image.now in
    let f : FnNote = c.args.f.now in
    let at : ℕ = c.loop-at.at in
    let next : ℕ = at + c.in-Ok.len in
    let d = decoded (goal.at.loop-at-preserved-in_ok-push c).After-named_in (λ i. omega (arith, c.type_inv.code i)) in
    let reached : IsPlaceOf image f at = c.loop-at.invariant.reached c.loop-at-test.true in
    let more = adds_push (IsNamedBefore image f at) (IsNamedBefore image f next) c.args.places.now.items c.loop-at.places.items
    c.in-Some.place
    c.loop-at.invariant.adds (before_more image f at next c.in-Ok.insn reached d)
    (before_here image f at next c.in-Ok.insn reached d c.in-Some.place c.in-Some.ensures.some)
    (λ p h. named_once image f at next c.in-Ok.insn p c.in-Some.place c.in-Some.ensures.some
    (before_cases image f at next c.in-Ok.insn reached d p h)) in
    record {
      adds = subst (Adds (IsNamedBefore image f next) c.args.places.now.items) (sym c.in_ok-push.ensures.items) more;
      reached = λ less. next_place image f at next c.in-Ok.insn reached d less;
      from = let later = decode_later image f at next c.in-Ok.insn d in let low = c.loop-at.invariant.from in omega arith;
    }

pub loop-at-preserved : goal.loop-at-preserved
loop-at-preserved c =
    let image : Image = c.args.image.now in
    let f : FnNote = c.args.f.now in
    let at : ℕ = c.loop-at.at in
    let next : ℕ = at + c.in-Ok.len in
    let d = decoded (goal.at.loop-at-preserved c).After-named_in (λ i. omega (arith, c.type_inv.code i)) in
    let reached : IsPlaceOf image f at = c.loop-at.invariant.reached c.loop-at-test.true in
    record {
      adds = adds_same (IsNamedBefore image f at) (IsNamedBefore image f next) c.args.places.now.items c.loop-at.places.items
          c.loop-at.invariant.adds (before_more image f at next c.in-Ok.insn reached d)
          (λ p h. ⊎_elim (λ x. x) (λ x. absurd (c.in_default-named_in.ensures.none p x))
          (before_cases image f at next c.in-Ok.insn reached d p h));
      reached = λ less. next_place image f at next c.in-Ok.insn reached d less;
      from = let later = decode_later image f at next c.in-Ok.insn d in let low = c.loop-at.invariant.from in omega arith;
    }
