-- The methods of binds that were seen, one more at a time.
use Rattle.std.proofs.Common.{◌≡◌, ℕ, ◌+◌, ◌<◌, List, [], ◌∷◌, ◌++◌, length, map, take, drop, get_or, Bool, true, false, cond, Ok, refl}
use Rattle.std.proofs.Common.{sym, ap, subst, ◌∙◌}
use Rattle.std.proofs.lemmas.List.{take_more, map-append}
use Rattle.std.specs.Prelude.{bytes_eq, codes, not}
use Rattle.std.specs.List.{list_any}
use denote.Ref.{Bor}
use Rattle.bind_texts.specs.BindTexts.{bound_once, methods_before}
use Rattle.bind_texts.specs.declared.draft.BindDraft.{BindDraft}
use Rattle.ebc_base.specs.Steps.{passes}
use Rattle.ebc_base.specs.Tables.{is_named}
use Rattle.note_texts.specs.Keys.{row_prefix}
use Rattle.note_texts.specs.Outcome.{Fails}
use Rattle.note_types.specs.declared.fault.NotesEnd.{NotesEnd}
use Rattle.note_types.specs.declared.fault.NotesEnd.TheVariants.{Fault}
use Rattle.note_types.specs.declared.fault.TomlFault.{TomlFault}
use Rattle.note_types.specs.declared.fault.TomlFault.TheVariants.{Twice}
use Rattle.script_draft.specs.Lists.{all_pass}
use Rattle.script_draft.proofs.ListLaws.{pass-on, pass-stop}

-- the names that texts are
abbrev pub shown : List (Bor (List ℕ)) → List (List ℕ)
shown keys = map (λ (k : Bor (List ℕ)). k.now) keys

-- the binds below a number passed, and their methods were seen
pub record AreSeen (binds : List BindDraft) (number : ℕ) (keys : List (Bor (List ℕ))) : Type 0 where
  pub so_far : all_pass (bound_once binds) number (drop number binds) ≡ all_pass (bound_once binds) 0 binds
  pub seen : shown keys ≡ methods_before binds number

stopped : (b : Bool) (f : TomlFault) (new : Bool) → new ≡ not b → new ≡ false → Fails (Fault f) (passes (not b) f)
stopped true f new tells old = refl
stopped false f new tells old = absurd cc

went_on : (b : Bool) (f : TomlFault) (new : Bool) → new ≡ not b → new ≡ true → (passes (not b) f ≡ Ok tt) × (b ≡ false)
went_on true f new tells is_new = absurd cc
went_on false f new tells is_new = (refl, refl)

module _ (eq : Bor (List ℕ) → Bor (List ℕ) → Bool) (is_eq : (k l : Bor (List ℕ)) → eq k l ≡ bytes_eq k.now l.now) (y : Bor (List ℕ)) where
  named : (keys : List (Bor (List ℕ))) → list_any (eq y) keys ≡ is_named y.now (shown keys)
  named [] = refl
  named (k ∷ ks) = rw (is_eq y k, named ks) refl

  module _ (binds : List BindDraft) (i : ℕ) (x : BindDraft) (keys : List (Bor (List ℕ))) (shows : y.now ≡ x.method)
      (within : i < length binds) (is : x ≡ get_or binds i x) (before : AreSeen binds i keys) (new : Bool)
      (tells : new ≡ not (list_any (eq y) keys)) where
    told : new ≡ not (is_named x.method (methods_before binds i))
    told = tells ∙ ap not (named keys ∙ ap (λ n. is_named n (shown keys)) shows ∙ ap (is_named x.method) before.seen)

    -- a bind of a method that was seen is the first at fault
    pub again_here : (end : NotesEnd) → new ≡ false → end ≡ Fault (Twice (row_prefix (codes "bind") i ++ codes "method"))
        → Fails end (all_pass (bound_once binds) 0 binds)
    again_here end old is_end =
        let here : Fails end (bound_once binds i x) = subst (λ e. Fails e (bound_once binds i x)) (sym is_end)
        (stopped (is_named x.method (methods_before binds i)) (Twice (row_prefix (codes "bind") i ++ codes "method")) new told old) in
        pass-stop (bound_once binds) i binds (all_pass (bound_once binds) 0 binds) end x within is here before.so_far

    -- one of another method is seen from then on
    pub seen_more : (after : List (Bor (List ℕ))) → new ≡ true → after ≡ cond (list_any (eq y) keys) keys (keys ++ y ∷ [])
        → AreSeen binds (i + 1) after
    seen_more after is_new added =
        let passes_here = went_on (is_named x.method (methods_before binds i)) (Twice (row_prefix (codes "bind") i ++ codes "method")) new
        told is_new in
        let absent : list_any (eq y) keys ≡ false = (went_on (list_any (eq y) keys) (Twice []) new tells is_new).1 in
        let grown : after ≡ keys ++ y ∷ [] = subst (λ b. after ≡ cond b keys (keys ++ y ∷ [])) absent added in
        let one : take (i + 1) binds ≡ take i binds ++ x ∷ [] = take_more binds i x within ∙ ap (λ z. take i binds ++ z ∷ []) (sym is) in
        record {
          so_far = pass-on (bound_once binds) i binds (all_pass (bound_once binds) 0 binds) x within is passes_here.0 before.so_far;
          seen = rw (
            grown,
            one,
            map-append (λ (k : Bor (List ℕ)). k.now) keys (y ∷ []),
            map-append (λ (z : BindDraft). z.method) (take i binds) (x ∷ []),
            before.seen,
            shows,
          ) refl;
        }
