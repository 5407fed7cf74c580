-- There is one least number of steps after which two runs of a pair aren't the same, or none; and none where both images are typed.
use Rattle.pair_host.proofs.Common.{◌≡◌, ℕ, ◌<◌, List, Option, Some, None, inl, inr, refl, ap, sym, ◌∙◌, subst, arith, cases_lt, Both}
use Rattle.pair_host.proofs.Common.{PairWorld, Image, OwnPairsSame, PairsDifferAt, nowhere, IsPairReport, images_for, pair_world, PairRun}
use Rattle.pair_model.specs.declared.bind.Bind.{Bind}
use Rattle.pair_laws.specs.TypedPairs.{IsTypedPair}
use Rattle.pair_laws.proofs.Typed.{own_typed_pairs_are_same}
use Rattle.invariant_laws.specs.Endings.{RaisesOnlyDivideError}
use Rattle.pair_host.specs.{PairDiffers.first, PairRunner.ArePaired}
use Rattle.pair_host.specs.declared.driver.Driver.{Driver}
use Rattle.width_checker.specs.Typed.{Typed}

-- what was read of two typed images whose binds agree is a typed pair
pub typed_pair : (a b : Driver) (binds : List Bind) → ArePaired a b binds → Typed a.image.now a.notes.now → Typed b.image.now b.notes.now
    → IsTypedPair (images_for a b) (pair_world a b binds)
typed_pair a b binds paired ta tb =
    let caller = paired.caller in
    let provider = paired.provider in
    record {
      a = record {
        well_formed = caller.image;
        bytes = caller.bytes;
        size = refl;
        notes = caller.notes;
        script = caller.script;
        typed = ta;
      };
      b = record {
        well_formed = provider.image;
        bytes = provider.bytes;
        size = refl;
        notes = provider.notes;
        script = provider.script;
        typed = tb;
      };
      binds = paired.agree;
    }

module _ (images : Both Image) (world : PairWorld) where
  -- neither of two of them is below the other
  same_first : (k j : ℕ) → ¬ OwnPairsSame images world k → ((i : ℕ) → i < k → OwnPairsSame images world i)
      → ¬ OwnPairsSame images world j → ((i : ℕ) → i < j → OwnPairsSame images world i) → k ≡ j
  same_first k j n before m earlier = elim (cases_lt j k) [
    | inl below ↦ absurd (m (before j below))
    | inr above ↦ elim (cases_lt k j) [
      | inl below ↦ absurd (n (earlier k below))
      | inr under ↦ omega (arith, above, under)
    ]
  ]

  pub one_pair_differs : (limit : ℕ) (a b : Option ℕ) → PairsDifferAt images world limit a → PairsDifferAt images world limit b → a ≡ b
  one_pair_differs limit _ _ (nowhere all) (nowhere also) = refl
  one_pair_differs limit _ _ (nowhere all) (first k most n before) = absurd (n (all k most))
  one_pair_differs limit _ _ (first k most n before) (nowhere all) = absurd (n (all k most))
  one_pair_differs limit _ _ (first k most n before) (first j within m earlier) = ap Some (same_first k j n before m earlier)

  -- ---- typed images

  pub typed_pairs_never_differ : (limit : ℕ) (differ : Option ℕ) → IsTypedPair images world → PairsDifferAt images world limit differ
      → differ ≡ None
  typed_pairs_never_differ limit _ t (nowhere all) = refl
  typed_pairs_never_differ limit _ t (first k l n before) = absurd (n (own_typed_pairs_are_same images world k t).same)

  -- what the reports raise
  pub raised_at4 : (limit : ℕ) (x : PairRun) → IsTypedPair images world → IsPairReport 4 images world limit x
      → RaisesOnlyDivideError x.ending
  raised_at4 limit x t is = subst RaisesOnlyDivideError (sym is.ending) (own_typed_pairs_are_same images world x.steps t).raised

  pub raised_at8 : (limit : ℕ) (x : PairRun) → IsTypedPair images world → IsPairReport 8 images world limit x
      → RaisesOnlyDivideError x.ending
  raised_at8 limit x t is =
      let s = own_typed_pairs_are_same images world x.steps t in
      subst RaisesOnlyDivideError (s.same.ending ∙ sym is.ending) s.raised
