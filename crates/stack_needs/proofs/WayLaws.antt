-- A way one instruction longer.
use Rattle.stack_needs.proofs.Common.{◌≡◌, ℕ, zero, suc, List, [], ◌∷◌, ◌++◌, Some, length, refl, sym, ap, subst, arith, ◌∙◌, ⊎_elim}
use Rattle.stack_needs.proofs.Common.{slice_get, CallsFunction, AreCalls, Sees, Walked, HasWay, Depth}
use Rattle.std.proofs.Common.{◌+◌, ◌*◌, Option, None, IfSome, true, false, nat_eq, pos, get_or}
use Rattle.std.proofs.lemmas.{List.Quantifiers.position-Some, Option.slice_get-get_or, Bool.Decides.Decides-int_eq}
use Rattle.rules_flow.specs.Found.{is_at, number_at}
use Rattle.std.specs.{Prelude.slice_set, Prelude.◌&&◌, Ordering.int_eq}
use Rattle.ebc_base.proofs.Lists.{All_at}
use Rattle.note_types.specs.declared.notes.{Notes.Notes, FnNote.FnNote}
use Rattle.stack_needs.specs.{Calls.CallsFrom, Calls.HasStackCause, Calls.called_place, Walks.AreWrittenDepths, Walks.EndsSearch}
use Rattle.stack_needs.specs.{Walks.EndsWalk, Walks.IsCallee, Depths.after, Depths.no_depth, Ways.ComesBy, Ways.LeadsToPlace}
use Rattle.stack_needs.specs.declared.{outcome.NotFound.NotFound, walk.Called.Called}
use Rattle.stack_needs.proofs.StackLaws.{leads-by, push-cases, set-cases}
use Rattle.ebc_insn.specs.declared.Insn.{Insn}
use Rattle.pe_image.specs.declared.image.Image.{Image}
use Rattle.rules_image.specs.Images.{IsDecoded, reloc_at}
use Rattle.stack_needs.specs.declared.outcome.NotFound.TheVariants as ends

pub comes-first : (image : Image) (f : FnNote) → HasWay image f f.place no_depth
unfolding ComesBy
comes-first image f = (zero, (refl, refl))

pub comes-on : (image : Image) (f : FnNote) (from next place : ℕ) (lies depth : Depth) (i : Insn) → HasWay image f from lies
    → IsDecoded image f from i next → LeadsToPlace image next i place → depth ≡ after lies i → HasWay image f place depth
unfolding ComesBy
comes-on image f from next place lies depth i (n, comes) decode leads is = (
  suc n,
  record {
    from = from;
    lies = lies;
    comes = comes;
    insn = i;
    next = next;
    decode = decode;
    leads = leads;
    is = is;
  },
)

-- ---- what a walk has seen

pub written-more : (image : Image) (f : FnNote) (at : List (Option Depth)) (slot place : ℕ) (depth : Depth) → AreWrittenDepths image f at
    → place ≡ f.place + 2 * slot → HasWay image f place depth → AreWrittenDepths image f (slice_set at slot (Some depth))
written-more image f at slot place depth before where_is comes = λ k d is.
    ⊎_elim (before k d)
    (λ p.
    let same : depth ≡ d = some_same depth d (sym p.1) in
    subst (λ x. HasWay image f (f.place + 2 * x) d) (sym p.0)
    (subst (λ y. HasWay image f (f.place + 2 * slot) y) same (subst (λ q. HasWay image f q depth) where_is comes)))
    (set-cases at slot k (Some depth) (Some d) is)
  where
    some_same : (a b : Depth) → Some a ≡ Some b → a ≡ b
    some_same a b e = cc

-- a walk more
pub sees-more : (image : Image) (notes : Notes) (walks : List Walked) (w : Walked) (f : FnNote) (i : ℕ) → length walks ≡ i
    → slice_get notes.function i ≡ Some f → AreCalls image notes f w.calls.items
    → ((k j : ℕ) → Sees walks k j → CallsFunction image notes k j) → (k j : ℕ) → Sees (walks ++ w ∷ []) k j → CallsFunction image notes k j
sees-more image notes walks w f i count there calls before k j (v, (at, (n, (c, (call, is))))) =
    ⊎_elim (λ p. before k j (v, (p.1, (n, (c, (call, is))))))
    (λ p.
    let number : k ≡ i = p.0 ∙ count in
    let seen : slice_get w.calls.items n ≡ Some c = subst (λ (x : Walked). slice_get x.calls.items n ≡ Some c) p.1 call in
    record {
      f = f;
      there = subst (λ x. slice_get notes.function x ≡ Some f) (sym number) there;
      calls = subst (λ x. CallsFrom image notes f x) is
          (All_at (λ (x : Called). CallsFrom image notes f x.function) w.calls.items n c calls seen);
    })
    (push-cases walks w v k at)

pub sees-none : (image : Image) (notes : Notes) (k j : ℕ) → Sees [] k j → CallsFunction image notes k j
sees-none image notes k j (v, (at, rest)) = absurd cc

-- ---- the causes

pub cause-walk : (image : Image) (notes : Notes) (f : FnNote) (i : ℕ) (end : NotFound) → slice_get notes.function i ≡ Some f
    → EndsWalk image f end → HasStackCause image notes end
cause-walk image notes f i ends.NoMemory there why = tt
cause-walk image notes f i (ends.Uneven place) there why = record { number = i; f = f; there = there; uneven = why }
cause-walk image notes f i (ends.Recursion function) there why = absurd why

pub cause-search : (image : Image) (notes : Notes) (walks : List Walked) (end : NotFound)
    → ((k j : ℕ) → Sees walks k j → CallsFunction image notes k j) → EndsSearch (Sees walks) end → HasStackCause image notes end
cause-search image notes walks ends.NoMemory calls why = tt
cause-search image notes walks (ends.Recursion function) calls why =
    leads-by (Sees walks) (CallsFunction image notes) calls function function why
cause-search image notes walks (ends.Uneven place) calls why = absurd why

-- the function that is found at the place which is called
pub callee-found : (image : Image) (notes : Notes) (next : ℕ) (i : Insn) (found : Option ℕ) (fs : List FnNote) (place : ℕ)
    → found ≡ number_at (λ (f : FnNote). f.place) fs place → fs ≡ notes.function
    → called_place next (reloc_at image next) i ≡ Some (pos place) → IfSome found (IsCallee image notes next i)
unfolding number_at
callee-found image notes next i None fs place is same calls = tt
callee-found image notes next i (Some k) [] place is same calls = absurd cc
callee-found image notes next i (Some k) (g ∷ gs) place is same calls =
    let there = position-Some (is_at (λ (f : FnNote). f.place) place) (g ∷ gs) k g (sym is) in
    let h : FnNote = get_or (g ∷ gs) k g in
    let at : h.place ≡ place = nat_eq-same h.place place there.1 in
    record {
      g = h;
      there = subst (λ (ls : List FnNote). slice_get ls k ≡ Some h) same (slice_get-get_or (g ∷ gs) k g there.0);
      calls = calls ∙ ap (λ p. Some (pos p)) (sym at);
    }
  where
    nat_eq-same : (a b : ℕ) → nat_eq a b ≡ true → a ≡ b
    nat_eq-same a b e = grind (arith, e)

-- amounts that differ at one of the widths
pub apart-depths : (a b : Depth) → (int_eq a.at4 b.at4 && int_eq a.at8 b.at8) ≡ false → a ≡ b → ⊥
apart-depths a b other same =
    let self : (int_eq a.at4 a.at4 && int_eq a.at8 a.at8) ≡ false =
    subst (λ (x : Depth). (int_eq a.at4 x.at4 && int_eq a.at8 x.at8) ≡ false) (sym same) other in
    let equal : (int_eq a.at4 a.at4 && int_eq a.at8 a.at8) ≡ true =
    ap (λ x. x && int_eq a.at8 a.at8) ((Decides-int_eq a.at4 a.at4).1 refl) ∙ (Decides-int_eq a.at8 a.at8).1 refl in
    absurd cc
