-- Two runs whose instructions are taken side by side: where these ask for nothing and lead to one place, the runs stay the same.
use Rattle.twin_run.proofs.Common.{◌≡◌, ℕ, ◌-◌, ◌<◌, ◌≤◌, Bool, true, sym, ap, ◌∙◌, subst, arith, inl, inr, cases_lt, Running, Notes}
use Rattle.twin_run.proofs.Common.{spot_of, own_placement, RunState, World, IsAt, IsFree, steps_on, Runner}
use Rattle.host_model.specs.Runs.{SameRun}
use Rattle.twin_run.specs.OnItsWay.{AreSameBefore}
use Rattle.twin_run.proofs.SteppingOn.{AreTaken, IsOn}

-- two runs are the same after so many steps of each
abbrev AreSameAfter : World → ℕ → RunState → RunState → Type 0
AreSameAfter world n r s = SameRun world (own_placement 4 world) (steps_on 4 world n r) (own_placement 8 world) (steps_on 8 world n s)

-- Two runs that are the same are so before each of so many instructions, and after them too if none asks for something and they lead to
-- one place.
abbrev pub StaySame : Notes → ℕ → Runner 4 → Runner 8 → ℕ → Bool → Type 0
StaySame notes most x y n next =
    (world : World) (r s : RunState) → world.notes ≡ notes → IsFree world.script x most → IsFree world.script y most → r.ending ≡ Running
    → IsAt 4 world x r → IsAt 8 world y s → SameRun world (own_placement 4 world) r (own_placement 8 world) s
    → AreSameBefore world n r s × (next ≡ true → AreSameAfter world n r s)

pub none_same : (notes : Notes) (most : ℕ) (x : Runner 4) (y : Runner 8) → StaySame notes most x y (most - most) true
unfolding steps_on
none_same notes most x y =
    let none : 0 ≡ most - most = omega arith in
    subst (λ n. StaySame notes most x y n true) none
    (λ world r s its free4 free8 on at4 at8 same. (λ j l. absurd (omega (arith, l)), λ e. same))

pub same_before_one : (world : World) (r s : RunState) → SameRun world (own_placement 4 world) r (own_placement 8 world) s
    → AreSameBefore world 1 r s
unfolding steps_on
same_before_one world r s same = λ j l. let none : 0 ≡ j = omega (arith, l) in subst (λ k. AreSameAfter world k r s) none same

-- two runners tell and end as before
still_same : (world : World) (x z : Runner 4) (y v : Runner 8) (r s : RunState) (n : ℕ) → IsAt 4 world x r → IsAt 8 world y s
    → SameRun world (own_placement 4 world) r (own_placement 8 world) s → IsOn 4 world x z n r → IsOn 8 world y v n s
    → z.host.trace ≡ x.host.trace → v.host.trace ≡ y.host.trace → z.ending ≡ x.ending → v.ending ≡ y.ending
    → spot_of world (own_placement 4 world) (steps_on 4 world n r).machine
    ≡ spot_of world (own_placement 8 world) (steps_on 8 world n s).machine → AreSameAfter world n r s
still_same world x z y v r s n at4 at8 same on4 on8 trace4 trace8 ending4 ending8 spot = record {
  spot = spot;
  trace = on4.at.tells.trace ∙ ((λ i. (trace4 i).items) ∙ (sym at4.tells.trace ∙ (same.trace ∙ (at8.tells.trace
      ∙ (sym (λ i. (trace8 i).items) ∙ sym on8.at.tells.trace)))));
  ending = sym on4.at.ending ∙ (ending4 ∙ (at4.ending ∙ (same.ending ∙ (sym at8.ending ∙ (sym ending8 ∙ on8.at.ending)))));
}

pub one_same : (notes : Notes) (most left : ℕ) (x z : Runner 4) (y v : Runner 8) (before after : Bool)
    → StaySame notes most x y (most - left) before → before ≡ true → left ≤ most → 0 < left
    → AreTaken 4 notes most x z (most - (left - 1)) after → AreTaken 8 notes most y v (most - (left - 1)) after
    → ((world : World) (r s : RunState) (d e : ℕ) → after ≡ true → IsAt 4 world (record z { done = d }) r
    → IsAt 8 world (record v { done = e }) s
    → spot_of world (own_placement 4 world) r.machine ≡ spot_of world (own_placement 8 world) s.machine)
    → StaySame notes most x y (most - (left - 1)) after
one_same notes most left x z y v before after were goes_on few some taken4 taken8 spot = λ world r s its free4 free8 on at4 at8 same.
    let was = were world r s its free4 free8 on at4 at8 same in
    let on4 = taken4.on world r its free4 on at4 in
    let on8 = taken8.on world s its free8 (sym same.ending ∙ on) at8 in (
      λ j l. elim (cases_lt j (most - left)) as (λ _. AreSameAfter world j r s) [
        | inl m ↦ was.0 j m
        | inr m ↦ let last : most - left ≡ j = omega (arith, l, m, few, some) in
            subst (λ k. AreSameAfter world k r s) last (was.1 goes_on)
      ],
      λ e. still_same world x z y v r s (most - (left - 1)) at4 at8 same on4 on8 taken4.trace taken8.trace
          (ap (λ (u : Runner 4). u.ending) (taken4.same e)) (ap (λ (u : Runner 8). u.ending) (taken8.same e))
          (spot world (steps_on 4 world (most - (left - 1)) r) (steps_on 8 world (most - (left - 1)) s) _ _ e on4.at on8.at),
    )
