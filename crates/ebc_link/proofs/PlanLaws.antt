-- The names of a plan's objects, one more at a time, and the name of its entry.
use Rattle.ebc_link.proofs.Common.{◌≡◌, ℕ, ◌+◌, ◌≤◌, ◌<◌, Bool, true, false, cond, List, [], ◌∷◌, ◌++◌, length, get_or, drop, Option, Some}
use Rattle.ebc_link.proofs.Common.{None, Ok, refl, sym, ap, subst, ◌∙◌, arith, drop_of_length-le, All, ◌≢◌, AllPairs, bytes_eq, codes}
use Rattle.ebc_link.proofs.Common.{not, All-cons, All-nil, or_else, is_named, first_again}
use Rattle.std.proofs.{lemmas.Bool.or_parts, lemmas.Bool.Decides.not_from_Decides}
use Rattle.std.proofs.{lemmas.List.Folds.list_any-append, lemmas.List.Kept.AllPairs-cons, lemmas.Option.none-some}
use Rattle.std.proofs.{lemmas.Slice.Eq.bytes_eq-Decides}
use Rattle.ebc_link.proofs.LaidLaws.{at_hand}
use Rattle.std.specs.Prelude.{◌||◌, IfOk, IfSome, if◌then◌else◌}
use Rattle.toml.specs.Data.{Members, as_str}
use Rattle.note_types.specs.declared.fault.TomlFault.TheVariants.{Kind, Range}
use Rattle.ebc_base.specs.Names.{is_name, name_of}
use Rattle.ebc_base.proofs.Given.{ok_next, ok_some}
use Rattle.note_texts.specs.Keys.{field, text_at, text_of}

-- ---- a name more

when_new : (b : Bool) (name : List ℕ) (later : Option (List ℕ)) → (if b then Some name else later) ≡ None → (b ≡ false) × (later ≡ None)
when_new true name later e = absurd (none-some name (sym e))
when_new false name later e = (refl, e)

module _ (seen names : List (List ℕ)) (i : ℕ) (name : List ℕ) (new : Bool) (within : i < length names) (is : name ≡ get_or names i name)
    (so_far : first_again seen (drop i names) ≡ first_again [] names) (tells : new ≡ not (is_named name seen)) where
  -- a name that was seen is the first that stands there again
  pub again_here : new ≡ false → first_again [] names ≡ Some name
  unfolding first_again
  again_here old =
      let named : is_named name seen ≡ true = grind arith in sym (rw (at_hand names i name within is, named) at so_far)

  -- a name that is new is seen from then on
  pub again_later : (after : List (List ℕ)) → new ≡ true → after ≡ cond (is_named name seen) seen (seen ++ name ∷ [])
      → first_again after (drop (i + 1) names) ≡ first_again [] names
  unfolding first_again
  again_later after is_new added =
      let fresh : is_named name seen ≡ false = grind arith in
      rw (added, fresh) (rw (at_hand names i name within is, fresh) at so_far)

pub all_once : (seen names : List (List ℕ)) (i : ℕ) → length names ≤ i → first_again seen (drop i names) ≡ first_again [] names
    → first_again [] names ≡ None
unfolding first_again
all_once seen names i past so_far = sym so_far ∙ ap (first_again seen) (drop_of_length-le names past)

-- ---- names of which none stands there again are apart

not_there : (before : List (List ℕ)) (n m : List ℕ) → is_named m (before ++ n ∷ []) ≡ false → (is_named m before ≡ false) × (n ≢ m)
not_there before n m absent =
    let parts = or_parts (is_named m before) (bytes_eq m n || false) (sym (list_any-append (bytes_eq m) before (n ∷ [])) ∙ absent) in
    let other = or_parts (bytes_eq m n) false parts.1 in
    (parts.0, λ same. not_from_Decides (bytes_eq m n) (bytes_eq-Decides m n) other.0 (sym same))

pub apart_from : (before names : List (List ℕ)) → first_again before names ≡ None → All (λ name. is_named name before ≡ false) names
    × AllPairs (λ (n m : List ℕ). n ≢ m) names
unfolding first_again
apart_from before [] e = (All-nil (λ name. is_named name before ≡ false), λ i j d less within. absurd (omega arith))
apart_from before (n ∷ ns) e =
    let here = when_new (is_named n before) n (first_again (before ++ n ∷ []) ns) e in
    let rest = apart_from (before ++ n ∷ []) ns here.1 in (
      All-cons (λ name. is_named name before ≡ false) n ns here.0
          (λ i d within. (not_there before n (get_or ns i d) (rest.0 i d within)).0),
      AllPairs-cons (λ (a b : List ℕ). a ≢ b) n ns (λ i d within. (not_there before n (get_or ns i d) (rest.0 i d within)).1) rest.1,
    )

-- ---- the entry

-- a text is a name
abbrev IsNamed : List ℕ → Type 0
IsNamed name = is_name name ≡ true

only_name : (b : Bool) (text : List ℕ) → (b ≡ true → IsNamed text) → IfSome (if b then Some text else None) IsNamed
only_name true text h = h refl
only_name false text h = tt

name_at : (key : List ℕ) (table : Members) → IfOk (text_at name_of [] key table) IsNamed
unfolding text_at
name_at key table =
    ok_next IsNamed (field [] key table) (text_of name_of ([] ++ key)) (λ d.
    ok_next IsNamed (or_else (Kind ([] ++ key)) (as_str d)) (λ s. or_else (Range ([] ++ key)) (name_of s)) (λ s.
    ok_some IsNamed (Range ([] ++ key)) (name_of s) (only_name (is_name s) s (λ e. e))))

pub entry_name : (table : Members) (name : List ℕ) → text_at name_of [] (codes "entry") table ≡ Ok name → is_name name ≡ true
entry_name table name read = subst (λ r. IfOk r IsNamed) read (name_at (codes "entry") table)
