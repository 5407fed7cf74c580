-- What a bind that agrees gives: its function may be entered and is there, and a signature of its method lends no cell.
use Rattle.pair_laws.proofs.Common.{◌≡◌, ℕ, zero, suc, Bool, true, false, ◌&&◌, if◌then◌else◌, nat_eq, List, [], ◌∷◌, length, Option, Some}
use Rattle.pair_laws.proofs.Common.{None, option_map, refl, sym, ap, ◌∙◌, subst, arith, slice_get, list_all, zip, option_map_or, and_parts}
use Rattle.pair_laws.proofs.Common.{false≢true, none-some, same_Some, and_then_some, some_of_map, same_kind, FnNote, Notes, Param}
use Rattle.pair_laws.proofs.Common.{Signature, Want, WantParam, Ty, signature_method, site_of, Bind, each_item, passing, AllAgree}
use Rattle.pair_laws.proofs.Common.{BoundCall, bound_to, bound_at, takes_alike, param_agrees, signature_agrees, bind_agrees}
use Rattle.std.proofs.{Common.subst₂, lemmas.Bool.eqb-true, lemmas.Bool.eq-eqb}
use Rattle.std.specs.List.{find}
use Rattle.host_model.specs.HostPlans.{may_enter}
use Rattle.step_sound.proofs.EvenPlaces.{find_some}
use Rattle.pair_model.specs.Binds.{function_agrees}
use Rattle.pair_laws.proofs.Holding.{LendsNone}
use Rattle.note_types.specs.declared.notes.Want.TheVariants as want

-- The bind that a function is bound to a method by.
record BoundBy (binds : List Bind) (method f : ℕ) : Type 0 where
  bind : Bind
  number : ℕ
  there : slice_get binds number ≡ Some bind
  method_is : bind.method ≡ method
  function_is : bind.function ≡ f

bound_by : (binds : List Bind) (method f : ℕ) → bound_to binds method ≡ Some f → BoundBy binds method f
unfolding bound_to
bound_by binds method f e =
    let q = some_of_map (λ (x : Bind). x.function) (find (λ (x : Bind). nat_eq x.method method) binds) f e in
    let r = find_some (λ (x : Bind). nat_eq x.method method) binds q.0 q.1 in
    record { bind = q.0; number = r.0; there = r.1; method_is = eqb-true q.0.method method r.2; function_is = q.2 }

-- a signature is of another method than that of the one by this number, or agrees with a function
abbrev agrees_of : Notes → ℕ → FnNote → Signature → Bool
agrees_of a x note z = if nat_eq z.method (signature_method a x) then signature_agrees note z else true

-- What a bound call at a place of A has.
pub record IsBoundCall (a b : Notes) (place g f : ℕ) : Type 0 where
  pub site : site_of a place ≡ Some g
  pub may : may_enter b f ≡ true
  pub note : FnNote
  pub there : slice_get b.function f ≡ Some note
  pub agrees : (s : Signature) → slice_get a.signature g ≡ Some s → signature_agrees note s ≡ true

pub bound_call : (a b : Notes) (binds : List Bind) (place : ℕ) (c : BoundCall) → AllAgree a b binds → bound_at binds a place ≡ Some c
    → IsBoundCall a b place c.signature c.function
unfolding bound_at bind_agrees
bound_call a b binds place c all e =
    let q = and_then_some (λ g. option_map (λ f. record { signature = g; function = f }) (bound_to binds (signature_method a g)))
    (site_of a place) c e in
    let r = some_of_map (λ f. record { signature = q.0; function = f }) (bound_to binds (signature_method a q.0)) c q.2 in
    let x = bound_by binds (signature_method a q.0) r.0 r.1 in
    let test = all x.number x.bind x.there in
    let turned : (may_enter b r.0 && option_map_or (function_agrees a (signature_method a q.0)) (slice_get b.function r.0) false) ≡ true =
    subst₂ (λ m f. (may_enter b f && option_map_or (function_agrees a m) (slice_get b.function f) false) ≡ true) x.method_is x.function_is
    test in
    subst (λ (z : BoundCall). IsBoundCall a b place z.signature z.function) r.2 (made q.0 r.0 q.1 turned)
  where
    made : (x y : ℕ) → site_of a place ≡ Some x
        → (may_enter b y && option_map_or (function_agrees a (signature_method a x)) (slice_get b.function y) false) ≡ true
        → IsBoundCall a b place x y
    made x y at test = by_note (slice_get b.function y) refl (and_parts (may_enter b y) _ test).1
      where
        by_note : (o : Option FnNote) → slice_get b.function y ≡ o
            → option_map_or (function_agrees a (signature_method a x)) o false ≡ true → IsBoundCall a b place x y
        by_note None is e = absurd (false≢true e)
        by_note (Some note) is e = record {
          site = at;
          may = (and_parts (may_enter b y) _ test).0;
          note = note;
          there = is;
          agrees = λ s h.
              let t = each_item (λ z. agrees_of a x note z ≡ true) a.signature
              (passing (agrees_of a x note) (λ z. agrees_of a x note z ≡ true) (λ z q. q) a.signature e) x s h in
              let m : signature_method a x ≡ s.method = ap (λ (o : Option Signature). option_map_or (λ (z : Signature). z.method) o 0) h in
              sym (ap (λ u. if u then signature_agrees note s else true) (eq-eqb s.method (signature_method a x) (sym m))) ∙ t;
        }

wish_none : (p : Want) (t : Ty) (c : _) → takes_alike p t ≡ true → p ≡ want.Out c → ⊥
wish_none (want.Out d) t c e is = absurd (false≢true e)
wish_none w t c e is = cc

lends_none : (ps : List WantParam) (qs : List Param) → length ps ≡ length qs → list_all param_agrees (zip ps qs) ≡ true → LendsNone ps
lends_none [] qs l e k p g c is = absurd (none-some p g)
lends_none (x ∷ ps) [] l e k p g c is = absurd (omega (arith, l))
lends_none (x ∷ ps) (y ∷ qs) l e zero p g c is =
    let h = (and_parts (same_kind x.kind y.kind) _ (and_parts (param_agrees (x, y)) _ e).0).1 in
    wish_none x.want y.ty c h (ap (λ (z : WantParam). z.want) (same_Some x p g) ∙ is)
lends_none (x ∷ ps) (y ∷ qs) l e (suc k) p g c is = lends_none ps qs (omega (arith, l)) (and_parts (param_agrees (x, y)) _ e).1 k p g c is

-- a signature that agrees with a function lends no cell, and has as many parameters
pub agreed_lends : (f : FnNote) (s : Signature) → signature_agrees f s ≡ true → (length s.params ≡ length f.params) × LendsNone s.params
agreed_lends f s e =
    let q = and_parts (nat_eq (length s.params) (length f.params)) _ e in
    let l = eqb-true (length s.params) (length f.params) q.0 in
    (l, lends_none s.params f.params l (and_parts (list_all param_agrees (zip s.params f.params)) _ q.1).0)
