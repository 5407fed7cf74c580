-- Which bytes stand where in the sections of an image that objects are linked to.
use Rattle.ebc_link.proofs.Common.{zero, ◌≡◌, ℕ, suc, ◌+◌, ◌-◌, ◌<◌, ◌≤◌, inl, ⊎_elim, List, [], ◌∷◌, ◌++◌, length, get_or, refl, sym}
use Rattle.ebc_link.proofs.Common.{ap, subst, ◌∙◌, arith, append_assoc, append-nil, length-append, All, AllPairs, codes, Contains}
use Rattle.ebc_link.proofs.Common.{nat_tests, get_or-append_right, get_or_append_left, overlaid, Fixup, next_place, rounded}
use Rattle.ebc_link.proofs.Common.{zeros, linked_sections, section_if, text_sections, laid, Section, Laid, section_from, start_of, put_at}
use Rattle.ebc_link.proofs.Common.{with_fixups, ArePacked}
use Rattle.std.proofs.{lemmas.Grind.common_steps, Common.◌⊎◌, lemmas.List.get_or-replicate, lemmas.List.length-replicate}
use Rattle.ebc_width.proofs.ByteLaws.{overlaid-agree}
use Rattle.ebc_link.proofs.{FillLaws.put_before, FillLaws.put_behind, FillLaws.put_inside, FillLaws.put_length, FoundLaws.first_of_all}
use Rattle.ebc_link.proofs.{FoundLaws.further, ImageLaws.contents_place, ThereLaws.nowhere}

-- ---- sections

-- a section lays its bytes over those of the sections behind it
laid_if : (name : List ℕ) (flags place : ℕ) (bytes : List ℕ) (rest : List Section) (x : ℕ)
    → laid (section_if name flags place bytes ++ rest) x ≡ overlaid (laid rest) place bytes x
unfolding laid overlaid
laid_if name flags place [] rest x = grind (arith, nat_tests)
laid_if name flags place (b ∷ bs) rest x = grind (arith, nat_tests)

laid_none : (x : ℕ) → laid [] x ≡ 0
unfolding laid
laid_none x = refl

-- what stands in code and data: the code, the data behind it, and zeros
pub laid_linked : (text contents : List ℕ) (x : ℕ) → laid (linked_sections text contents) x
    ≡ overlaid (overlaid (λ y. 0) (rounded 0x1000 (0x1000 + length text)) contents) 0x1000 text x
unfolding linked_sections
laid_linked text contents x =
    let name : List ℕ = codes ".data" ++ 0 ∷ 0 ∷ 0 ∷ [] in
    let place : ℕ = next_place (text_sections text) 0x1000 in
    let behind : List Section = section_if name 0xC0000040 place contents in
    laid_if (codes ".text" ++ 0 ∷ 0 ∷ 0 ∷ []) 0x60000020 0x1000 text behind x
    ∙ overlaid-agree (laid behind) (overlaid (λ y. 0) (rounded 0x1000 (0x1000 + length text)) contents) 0x1000 text x
    (ap (λ ss. laid ss x) (sym (append-nil behind))
    ∙ (laid_if name 0xC0000040 place contents [] x
    ∙ (overlaid-agree (laid []) (λ y. 0) place contents x (laid_none x)
    ∙ ap (λ p. overlaid (λ y. 0) p contents x) (contents_place text))))

-- ---- the bytes of objects, one object's behind another's

pub packed_behind : (section : ℕ) (bytes : Laid → List ℕ) (end : ℕ) (ls : List Laid) (l : Laid) → ArePacked section bytes end ls
    → Contains ls l → end ≤ start_of l.home section
packed_behind section bytes end [] l packed there = nowhere _ l there
packed_behind section bytes end (m ∷ ls) l packed (zero, within, is) = rw (← is) packed.0
packed_behind section bytes end (m ∷ ls) l packed (suc k, within, is) =
    let behind = packed_behind section bytes (start_of m.home section + length (bytes m)) ls l packed.1 (k, omega (arith, within), is) in
    omega (arith, packed.0, behind)

-- what stands past a gap and some bytes
past_gap : (gap : ℕ) (xs ys : List ℕ) (k : ℕ) → get_or (zeros gap ++ (xs ++ ys)) (gap + length xs + k) 0 ≡ get_or ys k 0
past_gap gap xs ys k = grind (arith, common_steps, get_or-append_right, length-replicate)

after_gap : (gap : ℕ) (xs ys : List ℕ) (k : ℕ) → k < length xs → get_or (zeros gap ++ (xs ++ ys)) (gap + k) 0 ≡ get_or xs k 0
after_gap gap xs ys k within = grind (arith, get_or-append_right, get_or_append_left, length-replicate)

in_gap : (gap : ℕ) (xs : List ℕ) (k : ℕ) → k < gap → get_or (zeros gap ++ xs) k 0 ≡ 0
in_gap gap xs k within = grind (arith, get_or_append_left, length-replicate, get_or-replicate)

pub at_object : (section : ℕ) (bytes : Laid → List ℕ) (end : ℕ) (ls : List Laid) (l : Laid) (i : ℕ) → ArePacked section bytes end ls
    → Contains ls l → i < length (bytes l)
    → get_or (section_from section bytes end ls) (start_of l.home section + i - end) 0 ≡ get_or (bytes l) i 0
unfolding section_from
at_object section bytes end [] l i packed there within = nowhere _ l there
at_object section bytes end (m ∷ ls) l i packed (zero, low, is) within =
    let start : ℕ = start_of m.home section in
    let at : start + i - end ≡ start - end + i = omega (arith, packed.0) in
    let fits : i < length (bytes m) = rw is within in
    rw (← is, at) (after_gap (start - end) (bytes m) (section_from section bytes (start + length (bytes m)) ls) i fits)
at_object section bytes end (m ∷ ls) l i packed (suc k, low, is) within =
    let start : ℕ = start_of m.home section in
    let next : ℕ = start + length (bytes m) in
    let there : Contains ls l = (k, omega (arith, low), is) in
    let far = packed_behind section bytes next ls l packed.1 there in
    let n : ℕ = start_of l.home section + i - next in
    let at : start_of l.home section + i - end ≡ start - end + length (bytes m) + n = omega (arith, packed.0, far) in
    rw at
    (past_gap (start - end) (bytes m) (section_from section bytes next ls) n ∙ at_object section bytes next ls l i packed.1 there within)

-- A place isn't among the bytes of an object.
abbrev pub IsApart : ℕ → (Laid → List ℕ) → ℕ → Laid → Type 0
IsApart section bytes x l = (x < start_of l.home section) ⊎ (start_of l.home section + length (bytes l) ≤ x)

pub between_objects : (section : ℕ) (bytes : Laid → List ℕ) (end : ℕ) (ls : List Laid) (x : ℕ) → ArePacked section bytes end ls → end ≤ x
    → ((l : Laid) → Contains ls l → IsApart section bytes x l) → get_or (section_from section bytes end ls) (x - end) 0 ≡ 0
unfolding section_from
between_objects section bytes end [] x packed low apart = refl
between_objects section bytes end (m ∷ ls) x packed low apart =
    let start : ℕ = start_of m.home section in
    let behind : List ℕ = section_from section bytes (start + length (bytes m)) ls in
    ⊎_elim
    (λ before. in_gap (start - end) (bytes m ++ behind) (x - end) (omega (arith, before, packed.0, low)))
    (λ past.
    let at : x - end ≡ start - end + length (bytes m) + (x - (start + length (bytes m))) = omega (arith, past, packed.0) in
    ap (λ n. get_or (zeros (start - end) ++ (bytes m ++ behind)) n 0) at
    ∙ (past_gap (start - end) (bytes m) behind (x - (start + length (bytes m)))
    ∙ between_objects section bytes (start + length (bytes m)) ls x packed.1 past (λ l there. apart l (further m ls l there))))
    (apart m (first_of_all ls m))

-- ---- the bytes of an object, with its fixups

-- Fixups lie among n bytes.
abbrev pub LieIn : (Fixup → List ℕ) → ℕ → List Fixup → Type 0
LieIn over n fs = All (λ (f : Fixup). f.offset + length (over f) ≤ n) fs

lie_on : (over : Fixup → List ℕ) (bytes : List ℕ) (f : Fixup) (fs : List Fixup) → LieIn over (length bytes) (f ∷ fs)
    → LieIn over (length (put_at bytes f.offset (over f))) fs
lie_on over bytes f fs lie i d inside =
    rw (put_length bytes f.offset (over f) (lie 0 f (omega arith))) (lie (suc i) d (omega (arith, inside)))

-- a byte that no fixup fills in stays
pub unfilled : (over : Fixup → List ℕ) (bytes : List ℕ) (fs : List Fixup) (i : ℕ) → LieIn over (length bytes) fs
    → All (λ (f : Fixup). (i < f.offset) ⊎ (f.offset + length (over f) ≤ i)) fs
    → get_or (with_fixups over bytes fs) i 0 ≡ get_or bytes i 0
unfolding with_fixups
unfilled over bytes [] i lie apart = refl
unfilled over bytes (f ∷ fs) i lie apart =
    let within : f.offset + length (over f) ≤ length bytes = lie 0 f (omega arith) in
    unfilled over (put_at bytes f.offset (over f)) fs i (lie_on over bytes f fs lie) (λ k d inside. apart (suc k) d (omega (arith, inside)))
    ∙ ⊎_elim (put_before bytes f.offset (over f) i within) (put_behind bytes f.offset (over f) i within) (apart 0 f (omega arith))

-- and each fixup's bytes stand where it is
pub filled_at : (over : Fixup → List ℕ) (bytes : List ℕ) (fs : List Fixup) (f : Fixup) (j : ℕ) → LieIn over (length bytes) fs
    → AllPairs (λ (g h : Fixup). g.offset + length (over g) ≤ h.offset) fs → Contains fs f → j < length (over f)
    → get_or (with_fixups over bytes fs) (f.offset + j) 0 ≡ get_or (over f) j 0
unfolding with_fixups
filled_at over bytes [] f j lie apart there within = nowhere _ f there
filled_at over bytes (g ∷ fs) f j lie apart (zero, inside, is) within =
    let put : List ℕ = put_at bytes g.offset (over g) in
    let low : j < length (over g) = rw is within in
    rw (← is)
    (unfilled over put fs (g.offset + j) (lie_on over bytes g fs lie)
    (λ i d in_it. inl (omega (arith, low, apart 0 (suc i) d (omega arith) (omega (arith, in_it)))))
    ∙ put_inside bytes g.offset (over g) j (lie 0 g (omega arith)) low)
filled_at over bytes (g ∷ fs) f j lie apart (suc k, inside, is) within =
    filled_at over (put_at bytes g.offset (over g)) fs f j (lie_on over bytes g fs lie)
    (λ a b d before in_it. apart (suc a) (suc b) d (omega (arith, before)) (omega (arith, in_it))) (k, omega (arith, inside), is) within

-- ---- the bytes of objects, one object more

pub section_more :
    (section : ℕ) (bytes : Laid → List ℕ) (start : ℕ) (ls rest : List Laid) (l : Laid) (old padded new whole : List ℕ) → ls ≡ l ∷ rest
    → ArePacked section bytes (start + length old) ls → padded ≡ old ++ zeros (start_of l.home section - (start + length old))
    → new ≡ padded ++ bytes l → old ++ section_from section bytes (start + length old) ls ≡ whole
    → (new ++ section_from section bytes (start + length new) rest ≡ whole) × ArePacked section bytes (start + length new) rest
unfolding section_from
section_more section bytes start ls rest l old padded new whole is packed pad put before =
    let both = subst (ArePacked section bytes (start + length old)) is packed in
    let gap : List ℕ = zeros (start_of l.home section - (start + length old)) in
    let put_there : new ≡ (old ++ gap) ++ bytes l = put ∙ ap (λ xs. xs ++ bytes l) pad in
    let long : length gap ≡ start_of l.home section - (start + length old) = length-replicate {A = ℕ} _ 0 in
    let at : start + length new ≡ start_of l.home section + length (bytes l) =
    omega (arith, simp length-append at (ap length put_there), long, both.0) in
    rw at (rw (put_there, append_assoc (old ++ gap) (bytes l), append_assoc old gap) (rw is at before), both.1)
