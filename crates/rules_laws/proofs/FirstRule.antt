-- Parts that are put together tell the first rule by which one of them fails.
use Rattle.rules_laws.proofs.Common.{◌≡◌, ◌⊎◌, ◌≤◌, Bool, true, false, Option, None, Some, nat_le, if◌then◌else◌, refl, sym, subst, ap, inl}
use Rattle.rules_laws.proofs.Common.{inr, ⊎_elim, arith, ◌∙◌, Ok, Err, leb-true, RuleName, ◌>>=◌, Tells, TellsRule, also, beside, gives_map}
use Rattle.rules_laws.proofs.Common.{needs, OrRule}
use Rattle.std.proofs.lemmas.Bool.{leb-false}
use Rattle.rules_base.specs.FirstRule.{IsFirst, Part, afterwards, alone, broken, only_where, seen, together, under}
use Rattle.rules_base.specs.Outcomes.{both, number_of_rule, sooner}
use Rattle.rules_base.proofs.FirstRule.{one_first}

-- ---- the first of two

sooner_by : (A C : RuleName → Type 0) (r q : RuleName) (b : Bool) → nat_le (number_of_rule r) (number_of_rule q) ≡ b → IsFirst A r
    → IsFirst C q → IsFirst (λ s. A s ⊎ C s) (if b then r else q)
sooner_by A C r q true e a c = let l = leb-true _ _ e in record {
  among = inl a.among;
  first = λ s h. ⊎_elim (λ i. a.first s i) (λ i. let m = c.first s i in omega arith) h;
}
sooner_by A C r q false e a c = let l = leb-false _ _ e in record {
  among = inr c.among;
  first = λ s h. ⊎_elim (λ i. let m = a.first s i in omega arith) (λ i. c.first s i) h;
}

-- the sooner of the first of some rules and the first of others is the first of all
pub sooner_first : (A C : RuleName → Type 0) (r q : RuleName) → IsFirst A r → IsFirst C q → IsFirst (λ s. A s ⊎ C s) (sooner r q)
unfolding sooner
sooner_first A C r q a c = sooner_by A C r q (nat_le (number_of_rule r) (number_of_rule q)) refl a c

pub first_left : (A C : RuleName → Type 0) (r : RuleName) → IsFirst A r → ((s : RuleName) → C s → ⊥) → IsFirst (λ s. A s ⊎ C s) r
first_left A C r a none = record { among = inl a.among; first = λ s h. ⊎_elim (λ i. a.first s i) (λ i. absurd (none s i)) h }

pub first_right : (A C : RuleName → Type 0) (q : RuleName) → ((s : RuleName) → A s → ⊥) → IsFirst C q → IsFirst (λ s. A s ⊎ C s) q
first_right A C q none c = record { among = inr c.among; first = λ s h. ⊎_elim (λ i. absurd (none s i)) (λ i. c.first s i) h }

-- ---- results

-- what fails by no rule gives something, and is told by a result
tells_ok : {A : Type 0} (x : A) (p : Part A) → p.gives x → ((y : A) → p.gives y → x ≡ y) → ((r : RuleName) → p.fails r → ⊥) → Tells (Ok x) p
tells_ok x p g one none = record {
  given = λ y. (λ e. let i : x ≡ y = cc in subst p.gives i g, λ h. ap Ok (one y h));
  first = λ r. (λ e. absurd cc, λ h. absurd (none r h.among));
  apart = λ y r h. none r;
}

-- what fails by a rule gives nothing
tells_err : {A : Type 0} (r : RuleName) (p : Part A) → IsFirst p.fails r → ((y : A) → p.gives y → ⊥) → Tells (Err r) p
tells_err r p f none = record {
  given = λ y. (λ e. absurd cc, λ h. absurd (none y h));
  first = λ q. (λ e. let i : r ≡ q = cc in subst (IsFirst p.fails) i f, λ h. ap Err (one_first p.fails r q f h));
  apart = λ y q h. absurd (none y h);
}

-- what a result that is there says of a part
module _ {A : Type 0} (p : Part A) where
  ok_gives : (x : A) → Tells (Ok x) p → p.gives x
  ok_gives x t = (t.given x).0 refl

  ok_one : (x : A) → Tells (Ok x) p → (y : A) → p.gives y → x ≡ y
  ok_one x t y h = let e = (t.given y).1 h in cc

  ok_passes : (x : A) → Tells (Ok x) p → (r : RuleName) → p.fails r → ⊥
  ok_passes x t r h = t.apart x r (ok_gives x t) h

  err_first : (r : RuleName) → Tells (Err r) p → IsFirst p.fails r
  err_first r t = (t.first r).0 refl

  err_nothing : (r : RuleName) → Tells (Err r) p → (y : A) → p.gives y → ⊥
  err_nothing r t y h = t.apart y r h (err_first r t).among

-- one thing alone
pub tells_alone : {A : Type 0} (g : OrRule A) → Tells g (alone g)
tells_alone (Ok x) = tells_ok x (alone (Ok x)) refl (λ y e. cc) (λ r e. cc)
tells_alone (Err r) = tells_err r (alone (Err r)) (record {
  among = refl;
  first = λ q e. let i : r ≡ q = cc in
      subst (λ s. number_of_rule r ≤ number_of_rule s) i (omega arith);
}) (λ y e. cc)

-- parts beside one another
pub tells_beside : {A B : Type 0} (a : OrRule A) (b : OrRule B) (p : Part A) (q : Part B) → Tells a p → Tells b q
    → Tells (beside a b) (together p q)
tells_beside (Ok x) (Ok y) p q t u =
    tells_ok (x, y) (together p q) (ok_gives p x t, ok_gives q y u)
    (λ z h. let e = ok_one p x t z.0 h.0 in let i = ok_one q y u z.1 h.1 in λ j. (e j, i j))
    (λ r h. ⊎_elim (ok_passes p x t r) (ok_passes q y u r) h)
tells_beside (Ok x) (Err r) p q t u =
    tells_err r (together p q) (first_right p.fails q.fails r (ok_passes p x t) (err_first q r u)) (λ z h. err_nothing q r u z.1 h.1)
tells_beside (Err r) (Ok y) p q t u =
    tells_err r (together p q) (first_left p.fails q.fails r (err_first p r t) (ok_passes q y u)) (λ z h. err_nothing p r t z.0 h.0)
tells_beside (Err r) (Err s) p q t u =
    tells_err (sooner r s) (together p q) (sooner_first p.fails q.fails r s (err_first p r t) (err_first q s u))
    (λ z h. err_nothing p r t z.0 h.0)

-- a part that needs what another one gives
pub tells_then : {A B : Type 0} (a : OrRule A) (f : A → OrRule B) (p : Part A) (q : A → Part B) → Tells a p → ((x : A) → Tells (f x) (q x))
    → Tells (a >>= f) (afterwards p q)
tells_then (Err r) f p q t u =
    tells_err r (afterwards p q) (first_left p.fails _ r (err_first p r t) (λ s h. err_nothing p r t h.0 h.1))
    (λ y h. err_nothing p r t h.0 h.1)
tells_then {A} (Ok x) f p q t u = record {
  given = λ y. (λ e. (x, ok_gives p x t, ((u x).given y).0 e), λ h. ((u x).given y).1 (back (λ (z : A). (q z).gives y) h.0 h.1 h.2));
  first = λ r. (λ e. first_right p.fails _ r (ok_passes p x t) (there r (((u x).first r).0 e)), λ h. ((u x).first r).1 (here r h));
  apart = λ y r h k. (u x).apart y r (back (λ (z : A). (q z).gives y) h.0 h.1 h.2)
      (⊎_elim (λ i. absurd (ok_passes p x t r i)) (λ i. back (λ (z : A). (q z).fails r) i.0 i.1 i.2) k);
} where
  back : (P : A → Type 0) (z : A) → p.gives z → P z → P x
  back P z g h = subst P (sym (ok_one p x t z g)) h

  there : (r : RuleName) → IsFirst (q x).fails r → IsFirst (λ s. (z : A) × p.gives z × (q z).fails s) r
  there r h = record { among = (x, ok_gives p x t, h.among); first = λ s k. h.first s (back (λ (z : A). (q z).fails s) k.0 k.1 k.2) }

  here : (r : RuleName) → IsFirst (afterwards p q).fails r → IsFirst (q x).fails r
  here r h = record {
    among = ⊎_elim (λ i. absurd (ok_passes p x t r i)) (λ i. back (λ (z : A). (q z).fails r) i.0 i.1 i.2) h.among;
    first = λ s k. h.first s (inr (x, ok_gives p x t, k));
  }

-- what a part gives, seen as something else
pub tells_seen : {A B : Type 0} (f : A → B) (a : OrRule A) (p : Part A) → Tells a p → Tells (gives_map f a) (seen f p)
tells_seen f (Ok x) p t = tells_ok (f x) (seen f p) (x, ok_gives p x t, refl) (λ y h. ap f (ok_one p x t h.0 h.1) ∙ h.2) (ok_passes p x t)
tells_seen f (Err r) p t = tells_err r (seen f p) (err_first p r t) (λ y h. err_nothing p r t h.0 h.1)

-- ---- conditions

-- a condition that holds, and one that fails
holds_none : (A : RuleName → Type 0) → ((r : RuleName) → A r → ⊥) → TellsRule None A
holds_none A none = record { holds = (λ e. none, λ h. refl); first = λ r. (λ e. absurd cc, λ h. absurd (none r h.among)) }

holds_some : (A : RuleName → Type 0) (r : RuleName) → IsFirst A r → TellsRule (Some r) A
holds_some A r f = record {
  holds = (λ e. absurd cc, λ h. absurd (h r f.among));
  first = λ q. (λ e. let i : r ≡ q = cc in subst (IsFirst A) i f, λ h. ap Some (one_first A r q f h));
}

none_fails : (A : RuleName → Type 0) → TellsRule None A → (r : RuleName) → A r → ⊥
none_fails A t = t.holds.0 refl

some_first : (A : RuleName → Type 0) (r : RuleName) → TellsRule (Some r) A → IsFirst A r
some_first A r t = (t.first r).0 refl

-- the first of the rules that are one
one_rule : (r : RuleName) (A : RuleName → Type 0) → A r → ((q : RuleName) → A q → r ≡ q) → IsFirst A r
one_rule r A a only = record {
  among = a;
  first = λ q h. let e = only q h in
      subst (λ s. number_of_rule r ≤ number_of_rule s) e (omega arith);
}

-- no condition
pub tells_none : TellsRule None (λ r. ⊥)
tells_none = holds_none (λ r. ⊥) (λ r h. h)

-- a condition that fails by one rule at most
pub tells_option : (c : Option RuleName) → TellsRule c (λ r. c ≡ Some r)
tells_option None = holds_none (λ r. None ≡ Some r) (λ r e. cc)
tells_option (Some q) = holds_some (λ r. Some q ≡ Some r) q (one_rule q (λ r. Some q ≡ Some r) refl (λ r e. cc))

-- a test
pub tells_needs : (r : RuleName) (b : Bool) → TellsRule (needs r b) (broken r b)
tells_needs r true = holds_none (broken r true) (λ q h. let e = h.0 in cc)
tells_needs r false = holds_some (broken r false) r (one_rule r (broken r false) (refl, refl) (λ q h. h.1))

-- conditions beside one another
pub tells_both : (a b : Option RuleName) (A B : RuleName → Type 0) → TellsRule a A → TellsRule b B → TellsRule (both a b) (λ r. A r ⊎ B r)
tells_both None None A B t u = holds_none (λ r. A r ⊎ B r) (λ r h. ⊎_elim (none_fails A t r) (none_fails B u r) h)
tells_both None (Some q) A B t u = holds_some (λ r. A r ⊎ B r) q (first_right A B q (none_fails A t) (some_first B q u))
tells_both (Some r) None A B t u = holds_some (λ r. A r ⊎ B r) r (first_left A B r (some_first A r t) (none_fails B u))
tells_both (Some r) (Some q) A B t u = holds_some (λ r. A r ⊎ B r) (sooner r q) (sooner_first A B r q (some_first A r t) (some_first B q u))

-- a part with conditions beside it
pub tells_also : {A : Type 0} (a : OrRule A) (c : Option RuleName) (p : Part A) (B : RuleName → Type 0) → Tells a p → TellsRule c B
    → Tells (also a c) (under p B)
tells_also (Ok x) None p B t u =
    tells_ok x (under p B) (ok_gives p x t, none_fails B u) (λ y h. ok_one p x t y h.0)
    (λ r h. ⊎_elim (ok_passes p x t r) (none_fails B u r) h)
tells_also (Ok x) (Some q) p B t u =
    tells_err q (under p B) (first_right p.fails B q (ok_passes p x t) (some_first B q u)) (λ y h. h.1 q (some_first B q u).among)
tells_also (Err r) None p B t u =
    tells_err r (under p B) (first_left p.fails B r (err_first p r t) (none_fails B u)) (λ y h. err_nothing p r t y h.0)
tells_also (Err r) (Some q) p B t u =
    tells_err (sooner r q) (under p B) (sooner_first p.fails B r q (err_first p r t) (some_first B q u)) (λ y h. err_nothing p r t y h.0)

-- an instruction of which a condition has to hold first
pub tells_where : {A : Type 0} (b : Bool) (r : RuleName) (a : OrRule A) (p : Part A) → Tells a p
    → Tells (if b then a else Err r) (only_where b r p)
tells_where true r a p t = t
tells_where false r a p t = tells_alone (Err r)
