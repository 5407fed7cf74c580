-- The bytes of a line of the code in the image that its object is linked to, and the fixups and relocations beside them.
use Rattle.link_laws.proofs.Common.{All, AreFixups, code_ends, fixups_in, fixups_of, IsAddress, laid_with, nat_tests, object_in, section_of}
use Rattle.link_laws.proofs.Common.{All-contains, contents_end, ends_in_data, Fixup, laid_inside, laid_objects, section_bytes, section_kind}
use Rattle.link_laws.proofs.Common.{All-from_recursion, Contains-append_left, Contains-append_right, get_or-append-add, get_or_append_left}
use Rattle.link_laws.proofs.Common.{All-weaker, all_append, are_fixups, AreFit, code_start, data_after, homes_from, names_with, slice_index}
use Rattle.link_laws.proofs.Common.{AllByRecursion, AllPairs-cons, contents_start, IsFixup, length-append, length-replicate, object_of_laid}
use Rattle.link_laws.proofs.Common.{AllPairs, bytes_of, code_end, Contains, IsInside, IsObject, KnowsUse, LineFits, LinkPlan, replicate, []}
use Rattle.link_laws.proofs.Common.{ap, ℕ, ◌+◌, ◌<◌, ◌∙◌, ◌∷◌, ◌≡◌, ◌≤◌, ◌⊎◌}
use Rattle.link_laws.proofs.Common.{arith, Bool, false, fills, get_or, Image, Knows, length, Object, Option, Stands, stands, use_of, ⊎_elim}
use Rattle.link_laws.proofs.Common.{ends_in, ends_of, fixup_of, homes_of, insn_use, known_in, Linked, place_in, place_of, rounded, spelling}
use Rattle.link_laws.proofs.Common.{inl, inr, Insn, is_of, Laid, laid, Line, List, None, refl, Some, start, subst, sym, true, width, ◌++◌}
use Rattle.link_laws.proofs.Lists.{all_back, all_front, each_of, none_passes, one_or_apart}
use Rattle.link_laws.proofs.Sources.{ends_at, fixups_append}
use Rattle.asm_text.specs.Statements as statements

-- ---- objects stand apart: the code of one ends before that of a later one, and so do its data, which stand behind all code

-- One object stands before another.
pub record IsBefore (l m : Laid) : Type 0 where
  pub code : l.home.code + length l.object.code ≤ m.home.code
  pub contents : l.home.contents + length l.object.contents ≤ m.home.contents

all_before : (code contents : ℕ) (os : List Object) → AllPairs IsBefore (laid_with os (homes_from code contents os))
unfolding homes_from
all_before code contents [] = λ i j d less below. absurd (omega (arith, below))
all_before code contents (o ∷ os) =
    let c : ℕ = rounded 2 code + length o.code in
    let d : ℕ = rounded 8 contents + length o.contents in
    let first : Laid = record { object = o; home = record { code = rounded 2 code; contents = rounded 8 contents } } in
    let ls : List Laid = laid_with os (homes_from c d os) in
    AllPairs-cons IsBefore first ls
    (All-weaker (Stands c d (code_end c os) (contents_end d os)) (IsBefore first)
    (λ l s. record { code = s.code_low; contents = s.contents_low }) ls (stands c d os)) (all_before c d os)

-- the same object, or one that stands before or behind
pub laid_apart : (objects : List Object) (l m : Laid) → Contains (laid_objects objects) l → Contains (laid_objects objects) m
    → (l ≡ m) ⊎ (IsBefore l m ⊎ IsBefore m l)
unfolding laid_objects homes_of
laid_apart objects l m first second =
    one_or_apart IsBefore (laid_with objects (homes_from code_start (contents_start objects) objects)) l m
    (all_before code_start (contents_start objects) objects) first second

pub behind_code : (objects : List Object) → code_end code_start objects ≤ contents_start objects
unfolding contents_start
behind_code objects = omega arith

-- ---- fixups beside a line of the code

-- A fixup of the code ends before some bytes, begins behind them, or is this one; or it is one of the data.
abbrev pub IsBeside : ℕ → ℕ → Option Fixup → Fixup → Type 0
IsBeside off n this f =
    (f.section ≡ 2) ⊎ (((f.section ≡ 1) × (f.offset + width f.kind ≤ off)) ⊎ (((f.section ≡ 1) × (off + n ≤ f.offset)) ⊎ (this ≡ Some f)))

-- A fixup of a section fills in bytes from one offset on up to another.
abbrev IsWithin : ℕ → ℕ → ℕ → Fixup → Type 0
IsWithin section from to f = (f.section ≡ section) × ((from ≤ f.offset) × (f.offset + width f.kind ≤ to))

section_all : (w : Bool) (m start : ℕ) (bytes : List ℕ) (names : List (List ℕ)) (fs : List Fixup) → m ≤ start
    → AreFixups w start bytes names fs
    → AllByRecursion (IsWithin (section_kind w) m (length bytes)) fs
section_all w m start bytes names [] low h = tt
section_all w m start bytes names (f ∷ fs) low h =
    let behind = h.0.behind in (
      (h.0.section, (omega (arith, low, behind), h.0.within)),
      section_all w m (f.offset + width f.kind) bytes names fs (omega (arith, low, behind)) h.1,
    )

-- the name that a line uses is among names
abbrev pub KnowsLine : List (List ℕ) → Line → Type 0
KnowsLine names l = KnowsUse names (use_of l.statement)

-- the fixups of the code that some lines have, which begin with its end at c
code_between : (d : Bool) (c k : ℕ) (names : List (List ℕ)) (ls : List Line) → AreFit ls → Knows names ls
    → AllByRecursion (IsWithin 1 c (c + length (section_of false d ls))) (fixups_in false (ends_at d c k) names ls)
code_between d c k names ls fit known =
    let pre : List ℕ = replicate c 0 in
    let bytes : List ℕ = section_of false d ls in
    let fs : List Fixup = fixups_in false (ends_at d c k) names ls in
    let long : length pre ≡ c = length-replicate c 0 in
    subst (λ to. AllByRecursion (IsWithin 1 c to) fs) (length-append pre bytes ∙ ap (λ n. n + length bytes) long)
    (section_all false c (length pre) (pre ++ bytes) names fs (omega (arith, long)) (are_fixups false d c k names ls pre long fit known))

-- the fixup of a line with an instruction at an offset of the code
abbrev pub own_fixup : ℕ → List (List ℕ) → Insn → Option (List ℕ) → Option Fixup
own_fixup off names i None = None
own_fixup off names i (Some name) = Some (fixup_of false off names (insn_use i name))

own_is : (off : ℕ) (names : List (List ℕ)) (i : Insn) (name : Option (List ℕ))
    → AllByRecursion (λ f. own_fixup off names i name ≡ Some f) (fixups_of false off names (use_of (Some (statements.Instruction i name))))
own_is off names i None = tt
own_is off names i (Some name) = (refl, tt)

pub ends_here : (front : List Line) → ends_in_data false front ≡ false
    → ends_of start front ≡ ends_at false (length (section_of false false front)) (ends_of start front).data_end
ends_here front code =
    let k : ℕ = (ends_of start front).data_end in
    ap (λ d. ends_at d (ends_of start front).code_end k) (ends_in start front ∙ code)
    ∙ ap (λ c. ends_at false c k) (code_ends start front ∙ omega arith)

module _ (front back : List Line) (line : Line) (i : Insn) (name : Option (List ℕ))
    (is : line.statement ≡ Some (statements.Instruction i name)) (code : ends_in_data false front ≡ false) where
  -- the lines, their names, where the line begins in the code, and how long it is
  abbrev ls : List Line
  ls = front ++ line ∷ back

  abbrev names : List (List ℕ)
  names = names_with [] ls

  abbrev off : ℕ
  off = length (section_of false false front)

  abbrev n : ℕ
  n = length (spelling i)

  abbrev k : ℕ
  k = (ends_of start front).data_end

  -- the fixups of the code before the line, those of the line, and those of the code behind it
  abbrev one : List Fixup
  one = fixups_in false start names front

  abbrev two : List Fixup
  two = fixups_of false off names (use_of (Some (statements.Instruction i name)))

  abbrev three : List Fixup
  three = fixups_in false (ends_at false (off + n) k) names back

  code_fixups : fixups_in false start names ls ≡ one ++ (two ++ three)
  unfolding fixups_in
  code_fixups = fixups_append false start names front (line ∷ back)
      ∙ ap (λ fs. one ++ fs) (ap (λ e. fixups_in false e names (line ∷ back)) (ends_here front code)
      ∙ ap (λ s. fixups_of false off names (use_of s) ++ fixups_in false (ends_at (data_after false s) (off + length (bytes_of s)) k) names
      back) is)

  -- each fixup of an object is one of a line of its code, or beside its bytes
  pub all_beside : AreFit ls → AllByRecursion (IsBeside off n (own_fixup off names i name)) (object_in ls).fixups
  unfolding object_in
  all_beside fit =
      let known : Knows names ls = known_in [] ls in
      let rest_fit = all_back LineFits front (line ∷ back) fit in
      let rest_known = all_back (KnowsLine names) front (line ∷ back) known in
      let B : Fixup → Type 0 = IsBeside off n (own_fixup off names i name) in
      let first = each_of (IsWithin 1 0 (0 + off)) B one (λ f h. inr (inl (h.0, omega arith)))
      (code_between false 0 0 names front (all_front LineFits front (line ∷ back) fit)
      (all_front (KnowsLine names) front (line ∷ back) known)) in
      let second = each_of (λ f. own_fixup off names i name ≡ Some f) B two (λ f h. inr (inr (inr h))) (own_is off names i name) in
      let third = each_of (IsWithin 1 (off + n) (off + n + length (section_of false false back))) B three
      (λ f h. inr (inr (inl (h.0, h.1.0)))) (code_between false (off + n) k names back rest_fit.1 rest_known.1) in
      let last = each_of (IsWithin 2 0 (length (section_of true false ls))) B (fixups_in true start names ls) (λ f h. inl h.0)
      (section_all true 0 0 (section_of true false ls) names (fixups_in true start names ls) (omega arith)
      (are_fixups true false 0 0 names ls [] refl fit known)) in
      all_append B (fixups_in false start names ls) (fixups_in true start names ls)
      (subst (AllByRecursion B) (sym code_fixups) (all_append B one (two ++ three) first (all_append B two three second third))) last

  -- and that of the line is one of them
  pub own_there : (f : Fixup) → Contains two f → Contains (object_in ls).fixups f
  unfolding object_in
  own_there f there =
      Contains-append_left (fixups_in false start names ls) (fixups_in true start names ls) f
      (subst (λ fs. Contains fs f) (sym code_fixups) (Contains-append_right one (two ++ three) f (Contains-append_left two three f there)))

-- ---- relocations beside a line

-- Eight bytes end before some bytes, begin behind them, or are those of an address that is this fixup.
abbrev pub IsAside : Laid → ℕ → ℕ → Option Fixup → ℕ → Type 0
IsAside l p n this x = ((x + 8 ≤ p) ⊎ (p + n ≤ x)) ⊎ ((f : Fixup) × (this ≡ Some f) × (f.kind ≡ 5) × (x ≡ l.home.code + f.offset))

data_aside : (objects : List Object) (l m : Laid) (p n x : ℕ) (this : Option Fixup) (f : Fixup) → IsInside objects l → IsInside objects m
    → p + n ≤ l.home.code + length l.object.code → f.section ≡ 2 → x ≡ place_of m.home f → IsAside l p n this x
data_aside objects l m p n x this f il im within section is =
    inl (inr (omega (arith, is ∙ ap (λ s. place_in m.home s f.offset) section, behind_code objects, within)))

code_place : (m : Laid) (f : Fixup) (x : ℕ) → f.section ≡ 1 → x ≡ place_of m.home f → x ≡ m.home.code + f.offset
code_place m f x section is = is ∙ ap (λ s. place_in m.home s f.offset) section

own_aside : (objects : List Object) (l : Laid) (off n x : ℕ) (this : Option Fixup) (f : Fixup) → IsInside objects l
    → off + n ≤ length l.object.code → f.kind ≡ 5 → x ≡ place_of l.home f → (f.section ≡ 1) ⊎ (f.section ≡ 2) → IsBeside off n this f
    → IsAside l (l.home.code + off) n this x
own_aside objects l off n x this f il within five is (inr two) beside =
    data_aside objects l l (l.home.code + off) n x this f il il (omega (arith, within)) two is
own_aside objects l off n x this f il within five is (inl one) (inr (inr (inr own))) = inr (f, own, five, code_place l f x one is)
own_aside objects l off n x this f il within five is (inl one) (inr (inr (inl a))) = inl (inr (omega (arith, code_place l f x one is)))
own_aside objects l off n x this f il within five is (inl one) (inr (inl a)) =
    inl (inl (omega (arith, code_place l f x one is, ap width five)))
own_aside objects l off n x this f il within five is (inl one) (inl two) = absurd (omega (arith, one, two))

other_aside : (objects : List Object) (l m : Laid) (off n x : ℕ) (this : Option Fixup) (f : Fixup) → IsInside objects l → IsInside objects m
    → off + n ≤ length l.object.code → f.kind ≡ 5 → x ≡ place_of m.home f
    → IsFixup m.object.code m.object.contents (length m.object.symbols) f
    → IsBefore l m ⊎ IsBefore m l → IsAside l (l.home.code + off) n this x
other_aside objects l m off n x this f il im within five is fix apart =
    let fits : l.home.code + off + n ≤ l.home.code + length l.object.code = omega (arith, within) in
    ⊎_elim
    (λ one.
    let place = code_place m f x one is in
    let inside = subst (λ s. f.offset + width f.kind ≤ length (section_bytes m.object.code m.object.contents s)) one fix.within in
    ⊎_elim
    (λ before. inl (inr (omega (arith, place, fits))))
    (λ behind. inl (inl (omega (arith, place, inside, ap width five)))) apart)
    (λ two. data_aside objects l m (l.home.code + off) n x this f il im fits two is)
    fix.section

-- no relocation has a byte of a line of the code but that of its own address
pub address_aside : (objects : List Object) (l : Laid) (off n x : ℕ) (this : Option Fixup) → All IsObject objects
    → Contains (laid_objects objects) l → off + n ≤ length l.object.code → AllByRecursion (IsBeside off n this) l.object.fixups
    → IsAddress (laid_objects objects) x → IsAside l (l.home.code + off) n this x
address_aside objects l off n x this all there within beside (m, f, has, its, five, is) =
    let il = laid_inside objects l there in
    let fix = All-contains (IsFixup m.object.code m.object.contents (length m.object.symbols)) m.object.fixups f
    (object_of_laid objects m all has).fixups its in
    ⊎_elim
    (λ same.
    let mine : Contains l.object.fixups f = subst (λ (k : Laid). Contains k.object.fixups f) (sym same) its in
    own_aside objects l off n x this f il within five (subst (λ (k : Laid). x ≡ place_of k.home f) (sym same) is) fix.section
    (All-contains (IsBeside off n this) l.object.fixups f (All-from_recursion (IsBeside off n this) l.object.fixups beside) mine))
    (λ other. other_aside objects l m off n x this f il (laid_inside objects m has) within five is fix other)
    (laid_apart objects l m there has)

-- ---- the bytes of a line in the image

not_filled : (off n k limit : ℕ) (this : Option Fixup) (f : Fixup) → IsBeside off n this f → k < limit → limit ≤ n
    → (this ≡ Some f → off + limit ≤ f.offset) → fills 1 (off + k) f ≡ false
not_filled off n k limit this f (inr (inr (inr own))) low short later = let from = later own in grind (arith, nat_tests)
not_filled off n k limit this f beside low short later = grind (arith, nat_tests, beside)

-- a byte of a line that its fixup doesn't fill in
pub line_byte : (objects : List Object) (plan : LinkPlan) (image : Image) (l : Laid) (before bytes rest : List ℕ) (limit k : ℕ)
    (this : Option Fixup) → Linked objects plan image → Contains (laid_objects objects) l → l.object.code ≡ before ++ (bytes ++ rest)
    → AllByRecursion (IsBeside (length before) (length bytes) this) l.object.fixups → k < limit → limit ≤ length bytes
    → ((f : Fixup) → this ≡ Some f → length before + limit ≤ f.offset)
    → laid image.sections (l.home.code + length before + k) ≡ get_or bytes k 0
line_byte objects plan image l before bytes rest limit k this link there code beside low short later =
    let off : ℕ = length before in
    let long = ap length code in
    let free = none_passes (fills 1 (off + k)) l.object.fixups
    (each_of (IsBeside off (length bytes) this) (λ f. fills 1 (off + k) f ≡ false) l.object.fixups
    (λ f h. not_filled off (length bytes) k limit this f h low short (later f)) beside) in
    let here : laid image.sections (l.home.code + (off + k)) ≡ slice_index l.object.code (off + k) =
    link.code l there (off + k) (omega (arith, long, length-append before (bytes ++ rest), length-append bytes rest, low, short)) free in
    let place : l.home.code + off + k ≡ l.home.code + (off + k) = omega arith in
    rw (place, here, code, get_or-append-add before (bytes ++ rest) k 0) (get_or_append_left bytes rest 0 k (omega (arith, low, short)))

-- a relocation beside a line has no byte in front of its number
pub before_number : (l : Laid) (p off n limit k x : ℕ) (this : Option Fixup) → IsAside l p n this x → p ≡ l.home.code + off → k < limit
    → limit ≤ n
    → ((f : Fixup) → this ≡ Some f → off + limit ≤ f.offset) → is_of (p + k) x ≡ false
before_number l p off n limit k x this (inl beside) at low short later = grind (arith, nat_tests)
before_number l p off n limit k x this (inr own) at low short later = let from = later own.0 own.1 in grind (arith, nat_tests)
