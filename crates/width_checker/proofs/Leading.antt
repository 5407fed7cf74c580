-- The places of a function rise, and the state before each is one.
use Rattle.width_checker.proofs.Common.{◌≡◌, ℕ, zero, suc, ◌<◌, ◌≤◌, refl, sym, ap, subst, ◌∙◌, inl, inr, ⊎_elim, arith, Option, Ok}
use Rattle.width_checker.proofs.Common.{cases_lt, same_Some, Insn, FnNote, Notes, Point, State, Image, IsDecoded, Successors, Leads, Comes}
use Rattle.width_checker.proofs.Common.{IsBefore, IsPointAt, StateAt, of_fall, of_point, here_at, row_of, decoded_once}
use Rattle.std.proofs.Common.{◌⊎◌}
use Rattle.ebc_decode.proofs.Laws.{read_length}
use Rattle.rules_image.specs.Images.{rest_of}

-- ---- places

pub decode_later : (image : Image) (f : FnNote) (p q : ℕ) (i : Insn) → IsDecoded image f p i q → p < q
decode_later image f p q i d = let l = read_length (rest_of image f p) i d.size d.reading in omega (arith, d.next_is, l.0)

-- so many lengths lead to one place
pub leads_one : (image : Image) (f : FnNote) (n p q : ℕ) → Leads image f n p → Leads image f n q → p ≡ q
unfolding Leads
leads_one image f zero p q a b = a ∙ sym b
leads_one image f (suc n) p q a b =
    let same : b.last ≡ a.last = leads_one image f n b.last a.last b.reached a.reached in
    let there : IsDecoded image f a.last b.insn q = subst (λ x. IsDecoded image f x b.insn q) same b.decode in
    (decoded_once image f a.last a.insn b.insn p q a.decode there).1

-- more lengths lead further, past the instruction at a place
pub leads_past : (image : Image) (f : FnNote) (n m p q r : ℕ) (i : Insn) → Leads image f n p → Leads image f m q → n < m
    → IsDecoded image f p i r → r ≤ q
unfolding Leads
leads_past image f n zero p q r i a b less d = absurd (omega arith)
leads_past image f n (suc m) p q r i a b less d =
    ⊎_elim (λ before.
    let rest : r ≤ b.last = leads_past image f n m p b.last r i a b.reached before d in
    let more = decode_later image f b.last q b.insn b.decode in omega arith)
    (λ from.
    let last : m ≡ n = omega arith in
    let reached : Leads image f n b.last = subst (λ k. Leads image f k b.last) last b.reached in
    let same : b.last ≡ p = leads_one image f n b.last p reached a in
    let there : IsDecoded image f p b.insn q = subst (λ x. IsDecoded image f x b.insn q) same b.decode in
    let ends : r ≡ q = (decoded_once image f p i b.insn r q d there).1 in omega arith)
    (cases_lt n m)

pub leads_further : (image : Image) (f : FnNote) (n m p q : ℕ) → Leads image f n p → Leads image f m q → n < m → p < q
unfolding Leads
leads_further image f n zero p q a b less = absurd (omega arith)
leads_further image f n (suc m) p q a b less =
    let more : b.last < q = decode_later image f b.last q b.insn b.decode in
    ⊎_elim (λ before. let rest : p < b.last = leads_further image f n m p b.last a b.reached before in omega arith)
    (λ from.
    let last : m ≡ n = omega arith in
    let reached : Leads image f n b.last = subst (λ k. Leads image f k b.last) last b.reached in
    let same : b.last ≡ p = leads_one image f n b.last p reached a in omega arith)
    (cases_lt n m)

-- so one place is led to by so many lengths alone
pub count_one : (image : Image) (f : FnNote) (n m p : ℕ) → Leads image f n p → Leads image f m p → n ≡ m
count_one image f n m p a b =
    ⊎_elim (λ less. absurd (let h = leads_further image f n m p p a b less in omega arith))
    (λ from. ⊎_elim (λ less. absurd (let h = leads_further image f m n p p b a less in omega arith)) (λ back. omega arith) (cases_lt m n))
    (cases_lt n m)

-- the places before the next one are those before this one, and this one
pub places_before : (image : Image) (f : FnNote) (n m p q r : ℕ) (i : Insn) → Leads image f n p → IsDecoded image f p i r
    → Leads image f m q → q < r → (q < p) ⊎ (q ≡ p)
places_before image f n m p q r i a d b less =
    ⊎_elim (λ more. absurd (let h = leads_past image f n m p q r i a b more d in omega arith))
    (λ from. ⊎_elim (λ below. inl (leads_further image f m n q p b a below))
    (λ back. let same : m ≡ n = omega arith in let there : Leads image f n q = subst (λ k. Leads image f k q) same b in
    inr (leads_one image f n q p there a))
    (cases_lt m n))
    (cases_lt n m)

pub start_first : (image : Image) (f : FnNote) (n p : ℕ) → Leads image f n p → f.place ≤ p
unfolding Leads
start_first image f zero p a = omega arith
start_first image f (suc n) p a =
    let more = decode_later image f a.last p a.insn a.decode in
    let rest = start_first image f n a.last a.reached in omega arith

-- the first place is the start, by no length
pub start_by_none : (image : Image) (f : FnNote) (n : ℕ) → Leads image f n f.place → n ≡ 0
unfolding Leads
start_by_none image f n a = count_one image f n 0 f.place a refl

-- ---- states

pub leads_of : (image : Image) (notes : Notes) (func : ℕ) (f : FnNote) (n p : ℕ) (c : Option State) → Comes image notes func f n p c
    → Leads image f n p
unfolding Leads Comes
leads_of image notes func f zero p c h = h.0
leads_of image notes func f (suc n) p c h = record {
  last = h.last;
  reached = leads_of image notes func f n h.last h.came h.reached;
  insn = h.insn;
  decode = h.decode;
  within = h.within;
}

-- a place has one point at most, where points ascend
abbrev pub OnePoint : Notes → Type 0
OnePoint notes = (place : ℕ) (p q : Point) → IsPointAt notes place p → IsPointAt notes place q → p ≡ q

pub before_one : (notes : Notes) → OnePoint notes → (place : ℕ) (c : Option State) (s t : State) → IsBefore notes place c s
    → IsBefore notes place c t → s ≡ t
before_one notes one place c s t (of_point p at e) (of_point q there g) = e ∙ ap (λ (x : Point). x.state) (one place p q at there) ∙ sym g
before_one notes one place c s t (of_point p at e) (of_fall none g) = absurd (none p at)
before_one notes one place c s t (of_fall none e) (of_point q there g) = absurd (none q there)
before_one notes one place c s t (of_fall none e) (of_fall miss g) = same_Some s t (sym e ∙ g)

-- what comes after one instruction is one
falls_one : (notes : Notes) (func p q : ℕ) (s : State) (i : Insn) (image : Image) (x y : Successors)
    → row_of notes (here_at image func p q) s i ≡ Ok x → row_of notes (here_at image func p q) s i ≡ Ok y → x ≡ y
falls_one notes func p q s i image x y a b = cc

pub comes_one : (image : Image) (notes : Notes) (func : ℕ) (f : FnNote) → OnePoint notes → (n p : ℕ) (c d : Option State)
    → Comes image notes func f n p c → Comes image notes func f n p d → c ≡ d
unfolding Comes
comes_one image notes func f one zero p c d a b = a.1 ∙ sym b.1
comes_one image notes func f one (suc n) p c d a b =
    let place : b.last ≡ a.last = leads_one image f n b.last a.last (leads_of image notes func f n b.last b.came b.reached)
    (leads_of image notes func f n a.last a.came a.reached) in
    let again : Comes image notes func f n a.last b.came = subst (λ x. Comes image notes func f n x b.came) place b.reached in
    let came : b.came ≡ a.came = comes_one image notes func f one n a.last b.came a.came again a.reached in
    let had : IsBefore notes a.last a.came b.state = subst (λ o. IsBefore notes a.last o b.state) came
    (subst (λ x. IsBefore notes x b.came b.state) place b.has_state) in
    let state : b.state ≡ a.state = before_one notes one a.last a.came b.state a.state had a.has_state in
    let there : IsDecoded image f a.last b.insn p = subst (λ x. IsDecoded image f x b.insn p) place b.decode in
    let insn : b.insn ≡ a.insn = (decoded_once image f a.last b.insn a.insn p p there a.decode).0 in
    let row : row_of notes (here_at image func a.last p) a.state a.insn ≡ Ok b.successors =
    subst (λ i. row_of notes (here_at image func a.last p) a.state i ≡ Ok b.successors) insn
    (subst (λ s. row_of notes (here_at image func a.last p) s b.insn ≡ Ok b.successors) state
    (subst (λ x. row_of notes (here_at image func x p) b.state b.insn ≡ Ok b.successors) place b.row)) in
    let same : a.successors ≡ b.successors = falls_one notes func a.last p a.state a.insn image a.successors b.successors a.row row in
    a.falls ∙ ap (λ (x : Successors). x.fall) same ∙ sym b.falls

-- the state before a place is the one that was found there
pub state_of : (image : Image) (notes : Notes) (func : ℕ) (f : FnNote) → OnePoint notes → (n p : ℕ) (c : Option State)
    → Comes image notes func f n p c
    → (s : State) → StateAt image notes func f p s → IsBefore notes p c s
state_of image notes func f one n p c h s at =
    let count : at.count ≡ n = count_one image f at.count n p (leads_of image notes func f at.count p at.come at.comes)
    (leads_of image notes func f n p c h) in
    let comes : Comes image notes func f n p at.come = subst (λ k. Comes image notes func f k p at.come) count at.comes in
    subst (λ o. IsBefore notes p o s) (comes_one image notes func f one n p at.come c comes h) at.before

pub state_one : (image : Image) (notes : Notes) (func : ℕ) (f : FnNote) → OnePoint notes → (p : ℕ) (s t : State)
    → StateAt image notes func f p s → StateAt image notes func f p t → s ≡ t
state_one image notes func f one p s t a b =
    before_one notes one p b.come s t (state_of image notes func f one b.count p b.come b.comes s a) b.before
