-- The entries come, function by function.
use Rattle.note_infer.proofs.Common.{◌≡◌, ◌⊎◌, ℕ, zero, suc, ◌+◌, ◌-◌, ◌<◌, ◌≤◌, Bool, true, false, nat_eq, if◌then◌else◌, List, [], ◌∷◌}
use Rattle.note_infer.proofs.Common.{◌++◌, length, map, replicate, refl, sym, ap, subst, ◌∙◌, ⊎_elim, arith, inl, inr, None, Option, Some}
use Rattle.note_infer.proofs.Common.{slice_get, Contains, OnFalse_at, OnTrue_at, cases_lt, same_Some, slice_get_within, entry_state, FnNote}
use Rattle.note_infer.proofs.Common.{Notes, State, Image, function_before, IsWithin, States, all_in, at_entry, by_entry, AreEntries}
use Rattle.note_infer.proofs.Common.{StartsAt, ClashesAt, Takes, given_to, state_at, Entered, IsSetting, AreStarts, Start}
use Rattle.std.specs.Bool.{OnFalse, OnTrue}
use Rattle.std.proofs.lemmas.List.{map-append, Elements.Contains-append_left, Elements.Contains-push}
use Rattle.ebc_base.proofs.Lists.{slice_get-append_left, slice_get-append_right}
use Rattle.note_infer.specs.{Entering.IsEntry, Starting.StartsAscend}
use Rattle.note_infer.proofs.StatesAt.{all_none, given_apart}

-- ---- lists of starts

-- a start of a list with one more is one of those before, or that one
pub pushed_cases : (xs : List Start) (x : Start) (j : ℕ) (y : Start) → slice_get (xs ++ x ∷ []) j ≡ Some y
    → (slice_get xs j ≡ Some y) ⊎ ((length xs ≡ j) × (x ≡ y))
pushed_cases xs x j y e =
    ⊎_elim (λ less. inl (sym (slice_get-append_left xs (x ∷ []) j less) ∙ e))
    (λ from. inr (last (j - length xs) refl (sym (slice_get-append_right xs (x ∷ []) j from) ∙ e) from))
    (cases_lt j (length xs))
  where
    last : (m : ℕ) → j - length xs ≡ m → slice_get (x ∷ []) m ≡ Some y → length xs ≤ j → (length xs ≡ j) × (x ≡ y)
    last zero q g from = (omega arith, same_Some x y g)
    last (suc m) q g from = absurd cc

pub pushed_ascend : (xs : List Start) (x : Start) → StartsAscend xs
    → ((j : ℕ) (y : Start) → slice_get xs j ≡ Some y → y.place < x.place) → StartsAscend (xs ++ x ∷ [])
pushed_ascend xs x up below i j y z less at there =
    ⊎_elim (λ b. ⊎_elim (λ a. up i j y z less a b)
    (λ a. let inside = slice_get_within xs j z b in let end = a.0 in absurd (omega arith))
    (pushed_cases xs x i y at))
    (λ b. ⊎_elim (λ a. subst (λ (s : Start). y.place < s.place) b.1 (below i y a))
    (λ a. let one = a.0 in let other = b.0 in absurd (omega arith))
    (pushed_cases xs x i y at))
    (pushed_cases xs x j z there)

pub starts_kept : (xs : List Start) (x : Start) (place : ℕ) → StartsAt xs place → StartsAt (xs ++ x ∷ []) place
starts_kept xs x place c =
    subst (λ (ps : List ℕ). Contains ps place) (sym (map-append (λ (y : Start). y.place) xs (x ∷ [])))
    (Contains-append_left (map (λ (y : Start). y.place) xs) (x.place ∷ []) place c)

pub starts_here : (xs : List Start) (x : Start) → StartsAt (xs ++ x ∷ []) x.place
starts_here xs x =
    subst (λ (ps : List ℕ). Contains ps x.place) (sym (map-append (λ (y : Start). y.place) xs (x ∷ [])))
    (Contains-push (map (λ (y : Start). y.place) xs) x.place)

-- ---- before the first function

state_none : (leaders : List ℕ) (n x : ℕ) → state_at leaders (replicate n None) x ≡ None
unfolding state_at
state_none [] n x = refl
state_none (l ∷ ls) zero x = refl
state_none (l ∷ ls) (suc n) x = by_test (nat_eq l x) (state_none ls n x)
  where
    by_test : (b : Bool) → state_at ls (replicate n None) x ≡ None → (if b then None else state_at ls (replicate n None) x) ≡ None
    by_test true e = refl
    by_test false e = e

pub nothing_before : (leaders : List ℕ) (states : List (Option State)) → states ≡ replicate (length leaders) None → (x : ℕ)
    → state_at leaders states x ≡ None
nothing_before leaders states e x = ap (λ os. state_at leaders os x) e ∙ state_none leaders (length leaders) x

pub entered_none : (notes : Notes) (leaders : List ℕ) (states : List (Option State)) (starts : List Start)
    → states ≡ replicate (length leaders) None → starts ≡ [] → Entered notes leaders (state_at leaders states) starts 0
entered_none notes leaders states starts none empty =
    subst (λ (xs : List Start). Entered notes leaders (state_at leaders states) xs 0) (sym empty)
    (record {
      ascend = λ i j x y less at there. absurd cc;
      each = λ j x at. absurd cc;
      taken = λ k f there less leader c w. absurd (omega arith);
      rest = λ k f there from leader c w. nothing_before leaders states none leader;
      begins = λ k f there less apart. absurd (omega arith);
    })

-- ---- a function more

-- a state that comes first doesn't clash
first_comes : (s : State) (b : Bool) → all_in None (if b then s ∷ [] else []) ≡ None → ⊥
unfolding all_in
first_comes s true e = cc
first_comes s false e = cc

module _ (image : Image) (notes other : Notes) (leaders : List ℕ) (g : IsSetting image notes other leaders) (come : States)
    (starts : List Start) (n : ℕ) (f : FnNote) (there : slice_get notes.function n ≡ Some f)
    (e : Entered notes leaders come starts n) where
  -- no place is in the code of two functions
  apart : (k : ℕ) (h : FnNote) → slice_get notes.function k ≡ Some h → (k ≡ n → ⊥) → (p : ℕ) → IsWithin h p → IsWithin f p → ⊥
  apart k h here differ p w v =
      ⊎_elim (λ less. let b = function_before image notes g.functions k n h f less here there in let high = w.1 in let low = v.0 in
      absurd (omega arith))
      (λ from. ⊎_elim (λ less. let b = function_before image notes g.functions n k f h less there here in let high = v.1 in
      let low = w.0 in absurd (omega arith))
      (λ back. differ (omega arith))
      (cases_lt n k))
      (cases_lt k n)

  one_function : (k : ℕ) (h : FnNote) → slice_get notes.function k ≡ Some h → k ≡ n → h ≡ f
  one_function k h here same = same_Some h f (sym here ∙ ap (slice_get notes.function) same ∙ there)

  entries_more : (j : ℕ) (x : Start) → slice_get starts j ≡ Some x → IsEntry notes leaders (n + 1) x
  entries_more j x at = let h = e.each j x at in let less = h.below in record {
    below = omega arith;
    f = h.f;
    there = h.there;
    apart = h.apart;
    place_is = h.place_is;
    state_is = h.state_is;
  }

  -- nothing clashes with what has come there
  pub no_clash : (place : ℕ) (s : State) → ClashesAt leaders f (given_to place s) come → ⊥
  no_clash place s h =
      first_comes s (nat_eq place h.leader)
      (subst (λ o. all_in o (given_to place s h.leader) ≡ None) (e.rest n f there (omega arith) h.leader h.there h.within) h.clash)

  -- its state comes to the leader at its start
  pub entered_leader : (after : States) → Contains leaders f.place
      → Takes leaders f (given_to f.place (entry_state notes n)) come after → Entered notes leaders after starts (n + 1)
  entered_leader after at t = record {
    ascend = e.ascend;
    each = entries_more;
    taken = λ k h here less leader c w.
        ⊎_elim (λ below. e.taken k h here below leader c w
        ∙ ap (λ o. Some o) (sym (t.others leader c (λ v. apart k h here (λ same. omega arith) leader w v))))
        (λ from.
        let same : k ≡ n = omega arith in
        let one : h ≡ f = one_function k h here same in
        let v : IsWithin f leader = subst (λ (q : FnNote). IsWithin q leader) one w in
        let taken : all_in None (by_entry notes n f leader) ≡ Some (after leader) =
        subst (λ o. all_in o (by_entry notes n f leader) ≡ Some (after leader)) (e.rest n f there (omega arith) leader c v)
        (t.within leader c v) in
        subst (λ (q : FnNote). all_in None (by_entry notes k q leader) ≡ Some (after leader)) (sym one)
        (subst (λ m. all_in None (by_entry notes m f leader) ≡ Some (after leader)) (sym same) taken))
        (cases_lt k n);
    rest = λ k h here past leader c w.
        t.others leader c (λ v. apart k h here (λ same. omega arith) leader w v) ∙ e.rest k h here (omega arith) leader c w;
    begins = λ k h here less none.
        ⊎_elim (λ below. e.begins k h here below none)
        (λ from.
        let one : h ≡ f = one_function k h here (omega arith) in
        absurd (none (subst (λ (q : FnNote). Contains leaders q.place) (sym one) at)))
        (cases_lt k n);
  }

  -- a walk begins there
  pub entered_start : (more : List Start) (x : Start) → (Contains leaders f.place → ⊥) → more ≡ starts ++ x ∷ [] → x.func ≡ n
      → x.place ≡ f.place → x.state ≡ entry_state notes n → Entered notes leaders come more (n + 1)
  entered_start more x none is func place state =
      subst (λ (xs : List Start). Entered notes leaders come xs (n + 1)) (sym is)
      (record {
        ascend = pushed_ascend starts x e.ascend (λ j y at.
            let h = e.each j y at in
            let range = (g.functions y.func h.f h.there).range in
            let b = function_before image notes g.functions y.func n h.f f h.below h.there there in
            let p = h.place_is in omega arith);
        each = λ j y at. ⊎_elim (λ old. entries_more j y old) (λ new. subst (IsEntry notes leaders (n + 1)) new.1 mine)
            (pushed_cases starts x j y at);
        taken = λ k h here less leader c w.
            ⊎_elim (λ below. e.taken k h here below leader c w)
            (λ from.
            let same : k ≡ n = omega arith in
            let one : h ≡ f = one_function k h here same in
            let v : IsWithin f leader = subst (λ (q : FnNote). IsWithin q leader) one w in
            let differ : h.place ≡ leader → ⊥ = λ q.
            none (subst (Contains leaders) (sym q ∙ ap (λ (u : FnNote). u.place) one) c) in
            ap (all_in None) (given_apart h.place leader (entry_state notes k) differ) ∙ all_none None
            ∙ ap (λ o. Some o) (sym (e.rest n f there (omega arith) leader c v)))
            (cases_lt k n);
        rest = λ k h here past leader c w. e.rest k h here (omega arith) leader c w;
        begins = λ k h here less apart.
            ⊎_elim (λ below. starts_kept starts x h.place (e.begins k h here below apart))
            (λ from.
            let one : h ≡ f = one_function k h here (omega arith) in
            let at : x.place ≡ h.place = place ∙ sym (ap (λ (u : FnNote). u.place) one) in
            subst (StartsAt (starts ++ x ∷ [])) at (starts_here starts x))
            (cases_lt k n);
      })
    where
      mine : IsEntry notes leaders (n + 1) x
      mine = record {
        below = omega arith;
        f = f;
        there = ap (slice_get notes.function) func ∙ there;
        apart = none;
        place_is = place;
        state_is = state ∙ ap (entry_state notes) (sym func);
      }

-- ---- all functions

module _ (notes : Notes) (leaders : List ℕ) (come states : States) (starts : List Start) (n : ℕ) (past : length notes.function ≤ n)
    (none : (x : ℕ) → states x ≡ None) (e : Entered notes leaders come starts n) where
  within : (k : ℕ) (f : FnNote) → slice_get notes.function k ≡ Some f → k < n
  within k f there = let inside = slice_get_within notes.function k f there in omega arith

  pub entered_starts : AreStarts notes leaders states starts
  entered_starts = record {
    ascend = e.ascend;
    each = λ j x at. let h = e.each j x at in record {
      f = h.f;
      there = h.there;
      begins = at_entry (λ c. h.apart (subst (Contains leaders) h.place_is c)) h.place_is h.state_is;
    };
  }

  pub entered_all : AreEntries notes leaders states come starts
  entered_all = record {
    taken = λ k f there leader c w.
        subst (λ o. all_in o (by_entry notes k f leader) ≡ Some (come leader)) (sym (none leader))
        (e.taken k f there (within k f there) leader c w);
    begins = λ k f there apart. e.begins k f there (within k f there) apart;
  }
