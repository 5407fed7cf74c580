-- Rounds end: a round that changes something makes the leaders' states say less.
use Rattle.note_infer.proofs.Common.{◌≡◌, ◌⊎◌, ℕ, zero, suc, ◌+◌, ◌<◌, ◌≤◌, Bool, true, false, nat_eq, if◌then◌else◌, List, [], ◌∷◌, length}
use Rattle.note_infer.proofs.Common.{Option, None, Some, refl, ap, sym, subst, ◌∙◌, inl, inr, ⊎_elim, arith, option_and_then, slice_get}
use Rattle.note_infer.proofs.Common.{Contains, same_Some, entry_state, FnNote, Notes, State, Ty, Image, agree, joined, without_fact}
use Rattle.note_infer.proofs.Common.{AreLeaders, AreSame, GivenAt, HasCome, IsRound, States, all_in, by_entry, GivesRoom, HasRoom}
use Rattle.note_infer.proofs.Common.{leaders_rank}
use Rattle.std.proofs.{Common.◌*◌, lemmas.Nat.ones-le}
use Rattle.std.specs.Int.RustNames.{count_ones}
use Rattle.note_types.specs.declared.items.Item.{Item, TheVariants.Slot, TheVariants.Locals}
use Rattle.note_infer.specs.Ranks.{item_rank, leader_rank, most_rank, register_rank, state_rank, summed}
use Rattle.note_infer.proofs.{StateJoins.state_weakens, TypeJoins.rank-most}

-- ---- what a state says at most

registers-most : (xs : List Ty) → summed register_rank xs ≤ 10 * length xs
unfolding summed
registers-most [] = omega arith
registers-most (x ∷ xs) = let p = rank-most x in let q = registers-most xs in omega (arith, p, q)

items-most : (xs : List Item) → summed item_rank xs ≤ 10 * length xs
unfolding summed
items-most [] = omega arith
items-most (Slot k t ∷ xs) = let p = rank-most t in let q = items-most xs in omega (arith, p, q)
items-most (Locals ∷ xs) = let q = items-most xs in omega (arith, q)

-- a state with room for what it holds says at most that much
without-most : (s : State) → HasRoom s → state_rank (without_fact s) ≤ most_rank
unfolding state_rank
without-most s h =
    let p = registers-most s.regs in let q = items-most s.items in let r : count_ones s.written ≤ 64 = ones-le 64 s.written h.written in
    let x = h.registers in let y = h.items in omega (arith, p, q, r, x, y)

-- ---- what is joined in

abbrev Falls : Option State → Option State → Type 0
Falls had come = (come ≡ had) ⊎ (leader_rank come < leader_rank had)

falls_on : {x y z : Option State} → Falls x y → Falls y z → Falls x z
falls_on (inl e) (inl g) = inl (g ∙ e)
falls_on {x} {y} {z} (inl e) (inr l) = inr (let q : leader_rank y ≡ leader_rank x = ap leader_rank e in omega (arith, q, l))
falls_on {x} {y} {z} (inr l) (inl g) = inr (let q : leader_rank z ≡ leader_rank y = ap leader_rank g in omega (arith, q, l))
falls_on (inr l) (inr k) = inr (omega (arith, l, k))

abbrev AllRoom : List State → Type 0
AllRoom ts = (k : ℕ) (t : State) → slice_get ts k ≡ Some t → HasRoom t

all_in-falls : (ts : List State) (had come : Option State) → AllRoom ts → all_in had ts ≡ Some come → Falls had come
unfolding all_in
all_in-falls [] had come h e = inl (sym (same_Some had come e))
all_in-falls (t ∷ ts) None come h e =
    let first : Falls None (Some (without_fact t)) = inr (let q = without-most t (h 0 t refl) in omega (arith, q)) in
    falls_on first (all_in-falls ts (Some (without_fact t)) come (λ k. h (suc k)) e)
all_in-falls (t ∷ ts) (Some s) come h e = by_test (all_in-falls ts (Some (joined s t)) come (λ k. h (suc k))) (agree s t) e
  where
    by_test : (all_in (Some (joined s t)) ts ≡ Some come → Falls (Some (joined s t)) come) → (b : Bool)
        → option_and_then (λ u. all_in (Some u) ts) (if b then Some (joined s t) else None) ≡ Some come → Falls (Some s) come
    by_test rest true e =
        let first : Falls (Some s) (Some (joined s t)) = ⊎_elim (λ q. inl (ap Some q)) (λ l. inr l) (state_weakens s t) in
        falls_on first (rest e)
    by_test rest false e = absurd cc

-- ---- a round

entry-room : (notes : Notes) (func : ℕ) → HasRoom (entry_state notes func)
entry-room notes func = record { registers = omega arith; items = omega arith; written = omega arith }

by_entry-room : (notes : Notes) (func : ℕ) (f : FnNote) (leader : ℕ) → AllRoom (by_entry notes func f leader)
by_entry-room notes func f leader = by_test (nat_eq f.place leader)
  where
    by_test : (b : Bool) → AllRoom (if b then entry_state notes func ∷ [] else [])
    by_test true zero t e = subst HasRoom (same_Some _ t e) (entry-room notes func)
    by_test true (suc k) t e = absurd cc
    by_test false k t e = absurd cc

module _ (image : Image) (notes : Notes) (leaders : List ℕ) (states : States) where
  come-falls : (k : ℕ) (f : FnNote) (leader : ℕ) → ((place : ℕ) (ts : List State) → GivenAt image notes leaders states k f leader place ts
      → AllRoom ts)
      → (place : ℕ) (come : Option State) → HasCome image notes leaders states k f leader place come → Falls (states leader) come
  unfolding HasCome
  come-falls k f leader room zero come h = all_in-falls (by_entry notes k f leader) (states leader) come (by_entry-room notes k f leader) h
  come-falls k f leader room (suc place) come h =
      falls_on (come-falls k f leader room place h.had h.before_is)
      (all_in-falls h.states h.had come (room place h.states h.given_is) h.all)

  -- all leaders have the same state, or less is known at all of them together
  all-fall : (next : States) (xs : List ℕ) → ((x : ℕ) → Contains xs x → Falls (states x) (next x))
      → AreSame xs states next ⊎ (leaders_rank next xs < leaders_rank states xs)
  unfolding summed
  all-fall next [] h = inl (λ x c. absurd (let l = c.1 in omega (arith, l)))
  all-fall next (x ∷ xs) h =
      both (h x (0, omega arith, refl)) (all-fall next xs (λ y c. h y (suc c.0, (let l = c.1 in omega (arith, l)), c.2)))
    where
      same : next x ≡ states x → AreSame xs states next → AreSame (x ∷ xs) states next
      same e s y (zero, l, q) = subst (λ z. next z ≡ states z) q e
      same e s y (suc k, l, q) = s y (k, omega (arith, l), q)

      both : Falls (states x) (next x) → AreSame xs states next ⊎ (leaders_rank next xs < leaders_rank states xs)
          → AreSame (x ∷ xs) states next ⊎ (leaders_rank next (x ∷ xs) < leaders_rank states (x ∷ xs))
      both (inl e) (inl s) = inl (same e s)
      both (inl e) (inr l) = inr (let q : leader_rank (next x) ≡ leader_rank (states x) = ap leader_rank e in omega (arith, q, l))
      both (inr l) (inl s) = inr (let q = same_rank xs s in omega (arith, q, l))
        where
          same_rank : (ys : List ℕ) → AreSame ys states next → leaders_rank next ys ≡ leaders_rank states ys
          same_rank [] s = refl
          same_rank (y ∷ ys) s =
              let p : leader_rank (next y) ≡ leader_rank (states y) = ap leader_rank (s y (0, omega arith, refl)) in
              let q = same_rank ys (λ z c. s z (suc c.0, (let l = c.1 in omega (arith, l)), c.2)) in omega (arith, p, q)
      both (inr l) (inr m) = inr (omega (arith, l, m))

  -- a round changes nothing, or less is known after it
  pub round_falls : AreLeaders image notes leaders → GivesRoom image notes leaders states → (next : States)
      → IsRound image notes leaders states next
      → AreSame leaders states next ⊎ (leaders_rank next leaders < leaders_rank states leaders)
  round_falls all room next round =
      all-fall next leaders (λ x c. let l = (all.all x).0 c in
      come-falls l.number l.f x (λ place ts. room l.number l.f l.there x place ts) l.f.end (next x)
      (round.comes l.number l.f l.there x c (l.of.first, l.of.within)))

-- before the first round so much is known, which no more rounds than that can use up
pub first_rank : (leaders : List ℕ) → (states : States) → ((x : ℕ) → states x ≡ None) → leaders_rank states leaders
    ≡ length leaders * (most_rank + 1)
unfolding summed
first_rank [] states h = refl
first_rank (x ∷ xs) states h =
    let p : leader_rank (states x) ≡ most_rank + 1 = ap leader_rank (h x) in let q = first_rank xs states h in omega (arith, p, q)
