-- The bytes of an image that is loaded at a base, and what is decoded there: an instruction of a source that it was linked from.
use Rattle.link_laws.proofs.Beside.{address_aside, all_beside, before_number, IsAside, IsBeside, KnowsLine, line_byte, own_fixup, own_there}
use Rattle.link_laws.proofs.Common.{All, bytes_eq, bytes_of, cases_lt, fixup_of, get_name, insn_use, is_named, KnowsUse, LineFits, LinkPlan}
use Rattle.link_laws.proofs.Common.{All-contains_itself, get_or-to_le_bytes, get_or_append_left, get_or_from_slice_get, little_endian-below}
use Rattle.link_laws.proofs.Common.{AllByRecursion, distance_kind, immediate_size, IsBelow, length-take-le, linked_sections, with_immediate}
use Rattle.link_laws.proofs.Common.{AllPairs, AreBytes, Contains, InsnFits, IsObject, replicate, same_Some, signed_at, slice_get, symbol_of}
use Rattle.link_laws.proofs.Common.{ap, ◌*◌, ◌+◌, ◌-◌, ◌/◌, ◌<◌, ◌^◌, ◌∙◌, ◌∷◌, ◌≡◌, ◌≤◌}
use Rattle.link_laws.proofs.Common.{AreFit, distance_of, ends_in_data, first_of_all, found_within, laid_objects, LinkedLoads, window-append}
use Rattle.link_laws.proofs.Common.{arith, false, Fixup, Holds, Image, Insn, is_of, Laid, Line, List, moved, subst, width, window, ⊎_elim}
use Rattle.link_laws.proofs.Common.{cases_Bool, data_after, ext_get_or, from_of, length-map, line_place, moved_byte, names_with, next_place}
use Rattle.link_laws.proofs.Common.{cond, find, inl, inr, laid, map, None, read, refl, Some, suc, sym, take, true, w64, zero, [], ◌%◌, ◌++◌}
use Rattle.link_laws.proofs.Common.{file_sections, get_or-window, if◌then◌else◌, length-append, length-window, little_endian, option_map_or}
use Rattle.link_laws.proofs.Common.{get_or, IsRead, known_in, length, Linked, mapped, Object, Option, place_of, spelling, Symbol, use_of, ℤ}
use Rattle.link_laws.proofs.Common.{get_or-append-add, IsNumberBy, length-replicate, recursion_from_All, slice_get-get_or, slice_get_within}
use Rattle.link_laws.proofs.Common.{get_or-take, is_distance, IsResolved, laid_inside, name_number, NameStands, Ok, to_le_bytes, WellFormed}
use Rattle.link_laws.proofs.Common.{IsDecoded, line_fits, nat_tests, number_at, object_in, pairs_tail, read_again, section_of, TakesName, ℕ}
use Rattle.link_laws.proofs.{Fitted.insn_is_read, Lists.all_back, Lists.find_none, Numbers.holds_address, Numbers.IsFar, Relocs.byte_of}
use Rattle.link_laws.proofs.{Immediates.takes_number, Immediates.TakesNumber, Lists.each_of, Numbers.holds_distance, Sources.section_append}
use Rattle.pe_image.proofs.SizeLaws.{linked_size_law}
use Rattle.pe_image.specs.Sizes.{size_of_linked}
use Rattle.ebc_insn.specs.declared.Insn.TheVariants as insns
use Rattle.asm_text.specs.Statements as statements

-- ---- bytes of a loaded image

-- a byte that no relocation has stays
pub mapped_free : (image : Image) (base x : ℕ) → AllByRecursion (λ r. is_of x r ≡ false) image.relocs
    → mapped image base x ≡ laid image.sections x
unfolding mapped moved
mapped_free image base x free =
    ap (λ o. option_map_or (moved_byte (laid image.sections) (distance_of base image.base) x) o (laid image.sections x))
    (find_none (is_of x) image.relocs free)

-- the one relocation that has a byte is found
found_one : (x r : ℕ) (rs : List ℕ) → Contains rs r → AllPairs IsBelow rs → is_of x r ≡ true → find (is_of x) rs ≡ Some r
found_one x r [] there apart here = absurd (omega arith)
found_one x r (q ∷ rs) (zero, low, is) apart here =
    ap (λ b. cond b (Some q) (find (is_of x) rs)) (subst (λ p. is_of x p ≡ true) (sym is) here) ∙ ap Some is
found_one x r (q ∷ rs) (suc k, low, is) apart here =
    let far = subst (λ p. q + 8 ≤ p) is (apart 0 (suc k) r (omega arith) low) in
    grind (arith, nat_tests, found_one x r rs (k, omega (arith, low), is) (pairs_tail q rs apart) here)

-- a byte of a relocated number is that of the number at the base
pub mapped_moved : (image : Image) (base x r : ℕ) → Contains image.relocs r → AllPairs IsBelow image.relocs → is_of x r ≡ true
    → mapped image base x ≡ (little_endian (laid image.sections) r 8 + distance_of base image.base) % 2 ^ 64 / 256 ^ (x - r) % 256
unfolding mapped moved
mapped_moved image base x r there apart here =
    ap (λ o. option_map_or (moved_byte (laid image.sections) (distance_of base image.base) x) o (laid image.sections x))
    (found_one x r image.relocs there apart here)

-- ---- a window of a loaded image

-- what is decoded where an instruction is spelled
pub decoded : (b : ℕ → ℕ) (p size : ℕ) (j : Insn) → WellFormed j → p + length (spelling j) ≤ size
    → ((k : ℕ) → k < length (spelling j) → b (p + k) ≡ get_or (spelling j) k 0)
    → read (window b p (size - p)) ≡ Ok (j, length (spelling j))
decoded b p size j well within same =
    let n : ℕ = length (spelling j) in
    let count : size - p ≡ n + (size - p - n) = omega (arith, within) in
    let long = length-window b p n in
    let front : window b p n ≡ spelling j = ext_get_or 0 (window b p n) (spelling j) long
    (λ k low. get_or-window b p n k 0 (omega (arith, low, long)) ∙ same k (omega (arith, low, long))) in
    let parts = ap (window b p) count
    ∙ (window-append b p n (size - p - n) ∙ ap (λ bs. bs ++ window b (p + n) (size - p - n)) front) in
    ap read parts ∙ read_again j (window b (p + n) (size - p - n)) well

-- ---- an instruction with a number in place of a name

-- What is known of such a size.
record SizeFits (n : ℕ) : Type 0 where
  small : n ≤ 8
  power : 256 ^ n ≡ 2 ^ (8 * n)
  few : distance_kind n ≤ 4
  wide : width (distance_kind n) ≡ n

size_fits : (i : Insn) → SizeFits (immediate_size i)
size_fits (insns.Jump8 c words) = record { small = omega arith; power = refl; few = omega arith; wide = refl }
size_fits (insns.Jump c far relative o e) = grind arith
size_fits (insns.Call far native relative o e) = grind arith
size_fits (insns.MoveRelative bits o x v) = grind (arith, nat_tests)
size_fits i = record { small = omega arith; power = refl; few = omega arith; wide = refl }

-- bytes of the front of an instruction, and behind them those of a number, are those of the instruction with the number
with_number : (i : Insn) (t : TakesNumber i) (b : ℕ → ℕ) (p n : ℕ) → n < 2 ^ (8 * immediate_size i)
    → ((k : ℕ) → k < length t.front → b (p + k) ≡ get_or (spelling i) k 0)
    → ((k : ℕ) → k < immediate_size i → b (p + length t.front + k) ≡ n / 256 ^ k % 256)
    → (k : ℕ) → k < length (spelling (with_immediate i (signed_at (8 * immediate_size i) n)))
    → b (p + k) ≡ get_or (spelling (with_immediate i (signed_at (8 * immediate_size i) n))) k 0
with_number i t b p n small front number k low =
    let size : ℕ = immediate_size i in
    let tail : List ℕ = take size (to_le_bytes w64 n) in
    let few = (size_fits i).small in
    let is : spelling (with_immediate i (signed_at (8 * size) n)) ≡ t.front ++ tail = t.spells n small in
    let long : length tail ≡ size = length-take-le size (to_le_bytes w64 n) few in
    ⊎_elim
    (λ early.
    rw (is, get_or_append_left t.front tail 0 k early)
    (front k early ∙ (ap (λ bs. get_or bs k 0) t.zeros ∙ get_or_append_left t.front (replicate size 0) 0 k early)))
    (λ late.
    let m : ℕ = k - length t.front in
    let inside : m < size = omega (arith, late, low, length-append t.front tail, ap length is, long) in
    let place : p + k ≡ p + length t.front + m = omega (arith, late) in
    let there : length t.front + m ≡ k = omega (arith, late) in
    let at = get_or-append-add t.front tail m 0 ∙ (get_or-take size (to_le_bytes w64 n) m 0 inside
    ∙ get_or-to_le_bytes n m (omega (arith, inside, few))) in
    ap b place ∙ (number m inside ∙ (sym at ∙ (ap (λ q. get_or (t.front ++ tail) q 0) there ∙ ap (λ bs. get_or bs k 0) (sym is)))))
    (cases_lt k (length t.front))

-- the bytes before its number, and those of the number
front_long : (i : Insn) (t : TakesNumber i) → length t.front + immediate_size i ≡ length (spelling i)
front_long i t = sym (simp (length-append, length-replicate) at (ap length t.zeros))

-- the length stays
with_length : (i : Insn) (t : TakesNumber i) (n : ℕ) → n < 2 ^ (8 * immediate_size i)
    → length (spelling (with_immediate i (signed_at (8 * immediate_size i) n))) ≡ length (spelling i)
with_length i t n small =
    let long = length-take-le (immediate_size i) (to_le_bytes w64 n) (size_fits i).small in
    omega (arith, simp length-append at (ap length (t.spells n small)), long, front_long i t)

-- ---- the fixup of a line

-- the symbol at the number of a name is that of the name
symbol_at : (ls : List Line) (name : List ℕ) → is_named name (names_with [] ls) ≡ true
    → slice_get (map (symbol_of ls) (names_with [] ls)) (name_number name (names_with [] ls)) ≡ Some (symbol_of ls name)
symbol_at ls name known =
    let ns : List (List ℕ) = names_with [] ls in
    let within : name_number name ns < length ns = found_within (bytes_eq name) ns known in
    slice_get-get_or (map (symbol_of ls) ns) (name_number name ns) (symbol_of ls name) (omega (arith, within, length-map ns (symbol_of ls)))
    ∙ ap Some (get_name (symbol_of ls) (symbol_of ls name) name ns known)

-- its symbol is that of the name
own_symbol : (front back : List Line) (line : Line) (i : Insn) (name : List ℕ) (s : Symbol)
    → line.statement ≡ Some (statements.Instruction i (Some name))
    → slice_get (object_in (front ++ line ∷ back)).symbols (name_number name (names_with [] (front ++ line ∷ back))) ≡ Some s
    → (s.name ≡ name) × Contains (object_in (front ++ line ∷ back)).symbols s
unfolding object_in
own_symbol front back line i name s is found =
    let ls : List Line = front ++ line ∷ back in
    let ss : List Symbol = map (symbol_of ls) (names_with [] ls) in
    let k : ℕ = name_number name (names_with [] ls) in
    let used = (all_back (KnowsLine (names_with [] ls)) front (line ∷ back) (known_in [] ls)).0 in
    let known : is_named name (names_with [] ls) ≡ true = subst (λ o. KnowsUse (names_with [] ls) (use_of o)) is used in
    let same : symbol_of ls name ≡ s = same_Some (symbol_of ls name) s (sym (symbol_at ls name known) ∙ found) in
    (ap (λ (t : Symbol). t.name) (sym same), (k, slice_get_within ss k s found, get_or_from_slice_get ss k s s found))

-- ---- addresses and distances

address_size : (i : Insn) → TakesName i → is_distance i ≡ false → immediate_size i ≡ 8
address_size (insns.Jump c false relative o e) t h = let r = t.2 in cc (sym r ∙ h)
address_size (insns.Call false native relative o e) t h = let r = t.2 in cc (sym r ∙ h)
address_size (insns.Jump8 c words) t h = cc h
address_size (insns.MoveRelative bits o x v) t h = cc h
address_size i t h = refl

abbrev before_line : List Line → List ℕ
before_line front = section_of false false front

abbrev behind_line : List Line → Line → List ℕ
behind_line back line = section_of false (data_after false line.statement) back

image_above : (image : Image) (text contents : List ℕ) → image.sections ≡ linked_sections text contents
    → 0x1000 + length text ≤ next_place (file_sections image) 0x1000
unfolding size_of_linked
image_above image text contents is = omega (arith, linked_size_law image text contents is)

-- the number of a fixup that fills in a distance
distance_bytes : (image : Image) (base r size k : ℕ) → AreBytes image → k < size
    → AllByRecursion (λ x. is_of (r + k) x ≡ false) image.relocs
    → mapped image base (r + k) ≡ little_endian (laid image.sections) r size / 256 ^ k % 256
distance_bytes image base r size k bytes low free =
    mapped_free image base (r + k) free ∙ sym (byte_of (laid image.sections) r size k bytes low)

-- and of one that fills in an address
address_bytes : (image : Image) (base place r k : ℕ) → AreBytes image → image.base < 2 ^ 64 → AllPairs IsBelow image.relocs
    → Contains image.relocs r → number_at image r 8 ≡ image.base + place → k < 8
    → mapped image base (r + k) ≡ (base + place) % 2 ^ 64 / 256 ^ k % 256
address_bytes image base place r k bytes small apart there is low =
    let here : is_of (r + k) r ≡ true = grind (arith, nat_tests) in
    let n : ℕ = little_endian (laid image.sections) r 8 in
    let low_number = little_endian-below (laid image.sections) r 8 bytes in
    let moved_ : (n + distance_of base image.base) % 2 ^ 64 ≡ (base + place) % 2 ^ 64 = omega (arith, is, small, low_number) in
    let same : r + k - r ≡ k = omega arith in
    mapped_moved image base (r + k) r there apart here
    ∙ (ap (λ q. q / 256 ^ (r + k - r) % 256) moved_ ∙ ap (λ e. (base + place) % 2 ^ 64 / 256 ^ e % 256) same)

-- where the number of a line is
number_place : (l : Laid) (front : List Line) (names : List (List ℕ)) (i : Insn) (name : List ℕ) (t : TakesNumber i)
    → place_of l.home (fixup_of false (length (before_line front)) names (insn_use i name)) ≡ line_place l front + length t.front
number_place l front names i name t = let long = front_long i t in omega (arith, long)

aside_distance : (l : Laid) (p n r size k x : ℕ) (f : Fixup) → IsAside l p n (Some f) x → f.kind ≤ 4 → p ≤ r → r + size ≤ p + n → k < size
    → is_of (r + k) x ≡ false
aside_distance l p n r size k x f (inl beside) four from to low = grind (arith, nat_tests)
aside_distance l p n r size k x f (inr own) four from to low = absurd (grind (arith, own.1, own.2))

module _ (objects : List Object) (plan : LinkPlan) (image : Image) (l : Laid) (front back : List Line) (line : Line) (i : Insn) where
  -- where it begins in the code of its object and in the image, how long it is, and the names of its source
  abbrev off : ℕ
  off = length (before_line front)

  abbrev p : ℕ
  p = line_place l front

  abbrev n : ℕ
  n = length (spelling i)

  abbrev names : List (List ℕ)
  names = names_with [] (front ++ line ∷ back)

  -- ---- an instruction without a name

  -- What is known of a line with an instruction in the code of a linked object.
  record IsLine (name : Option (List ℕ)) : Type 0 where
    linked : Linked objects plan image
    all : All IsObject objects
    bytes : AreBytes image
    there : Contains (laid_objects objects) l
    is : l.object ≡ object_in (front ++ line ∷ back)
    fit : AreFit (front ++ line ∷ back)
    statement : line.statement ≡ Some (statements.Instruction i name)
    code : ends_in_data false front ≡ false

  -- its fixup, if a name stands in it
  abbrev its_fixup : Option (List ℕ) → Option Fixup
  its_fixup name = own_fixup off names i name

  -- it is decoded, with its name resolved
  abbrev IsLoaded : ℕ → Option (List ℕ) → Type 0
  IsLoaded base name = (j : Insn) × IsResolved (laid_objects objects) l base (p + n) i name j × IsDecoded image base p j n

  module _ (name : Option (List ℕ)) (s : IsLine name) where
    line_code : l.object.code ≡ before_line front ++ (spelling i ++ behind_line back line)
    unfolding object_in section_of
    line_code =
        let first = ap (λ d. section_of false d (line ∷ back)) s.code ∙ ap (λ o. bytes_of o ++ behind_line back line) s.statement in
        ap (λ (o : Object). o.code) s.is
        ∙ (section_append false false front (line ∷ back) ∙ ap (λ bs. before_line front ++ bs) first)

    line_within : off + n ≤ length l.object.code
    line_within =
        let b = length-append (spelling i) (behind_line back line) in
        omega (arith, ap length line_code, length-append (before_line front) (spelling i ++ behind_line back line), b)

    line_beside : AllByRecursion (IsBeside off n (its_fixup name)) l.object.fixups
    line_beside =
        subst (λ (o : Object). AllByRecursion (IsBeside off n (its_fixup name)) o.fixups) (sym s.is)
        (all_beside front back line i name s.statement s.code s.fit)

    line_asides : AllByRecursion (IsAside l p n (its_fixup name)) image.relocs
    line_asides =
        each_of (λ x. Contains image.relocs x) (IsAside l p n (its_fixup name)) image.relocs
        (λ x there. address_aside objects l off n x (its_fixup name) s.all s.there line_within line_beside ((s.linked.relocs x).0 there))
        (recursion_from_All (λ x. Contains image.relocs x) image.relocs (All-contains_itself image.relocs))

    -- the image has the whole line
    line_inside : p + n ≤ image.size
    line_inside =
        let to = (laid_inside objects l s.there).code_high in
        let layout = s.linked.layout in
        let text : List ℕ = layout.sections.0 in
        let contents : List ℕ = layout.sections.1 in
        let ends = (s.linked.ends text contents layout.sections.2).0 in
        omega (arith, line_within, to, ends, image_above image text contents layout.sections.2)

    -- the bytes of the line that stand before its number, if it has one
    bytes_before : (base limit k : ℕ) → k < limit → limit ≤ n → ((f : Fixup) → its_fixup name ≡ Some f → off + limit ≤ f.offset)
        → mapped image base (p + k) ≡ get_or (spelling i) k 0
    bytes_before base limit k low short later =
        mapped_free image base (p + k)
        (each_of (IsAside l p n (its_fixup name)) (λ r. is_of (p + k) r ≡ false) image.relocs
        (λ r h. before_number l p off n limit k r (its_fixup name) h refl low short later) line_asides)
        ∙ line_byte objects plan image l (before_line front) (spelling i) (behind_line back line) limit k (its_fixup name) s.linked s.there
        line_code line_beside low short later

  plain_loads : (base : ℕ) → IsLine None → WellFormed i → IsDecoded image base p i n
  plain_loads base s well =
      decoded (mapped image base) p image.size i well (line_inside None s)
      (λ k low. bytes_before None s base n k low (omega arith) (λ f e. cc e))

  -- ---- an instruction with a name

  -- What the fixup of a line says: the symbol of the name, its place, and what the fixup holds.
  record IsNamedLine (name : List ℕ) : Type 0 where
    line_ : IsLine (Some name)
    place : ℕ
    stands : NameStands (laid_objects objects) l name place
    its : Contains l.object.fixups (fixup_of false off names (insn_use i name))
    holds : Holds plan.base image l (fixup_of false off names (insn_use i name)) place

  named_line : (name : List ℕ) → IsLine (Some name) → IsNamedLine name
  named_line name s =
      let f : Fixup = fixup_of false off names (insn_use i name) in
      let its = subst (λ (x : Object). Contains x.fixups f) (sym s.is) (own_there front back line i (Some name) s.statement s.code f
      (first_of_all [] f)) in
      let filled = s.linked.fixups l f s.there its in
      let found = subst (λ (x : Object). slice_get x.symbols f.symbol ≡ Some filled.0) s.is filled.2 in
      let symbol = own_symbol front back line i name filled.0 s.statement found in
      let member : Contains l.object.symbols filled.0 = subst (λ (x : Object). Contains x.symbols filled.0) (sym s.is) symbol.1 in
      record { line_ = s; place = filled.1; stands = (filled.0, member, symbol.0, filled.3); its = its; holds = filled.4 }

  -- the front of its bytes
  front_bytes : (base : ℕ) (name : List ℕ) (t : TakesNumber i) → IsLine (Some name) → (k : ℕ) → k < length t.front
      → mapped image base (p + k) ≡ get_or (spelling i) k 0
  front_bytes base name t s k low =
      let long = front_long i t in
      bytes_before (Some name) s base (length t.front) k low (omega (arith, long)) (λ f e.
      omega (arith, ap (λ (x : Fixup). x.offset) (same_Some (fixup_of false off names (insn_use i name)) f e), long))

  -- what was decoded is the instruction with this number
  number_loads : (base : ℕ) (name : List ℕ) (t : TakesNumber i) (m : ℕ) → IsLine (Some name) → m < 2 ^ (8 * immediate_size i)
      → ((k : ℕ) → k < immediate_size i → mapped image base (p + length t.front + k) ≡ m / 256 ^ k % 256)
      → IsDecoded image base p (with_immediate i (signed_at (8 * immediate_size i) m)) n
  number_loads base name t m s small number =
      let j : Insn = with_immediate i (signed_at (8 * immediate_size i) m) in
      let long : length (spelling j) ≡ n = with_length i t m small in
      decoded (mapped image base) p image.size j (t.fits m small) (omega (arith, long, line_inside (Some name) s))
      (with_number i t (mapped image base) p m small (front_bytes base name t s) number)
      ∙ ap (λ k. Ok (j, k)) long

  -- ---- a name in an instruction

  address_loads : (base : ℕ) (name : List ℕ) → IsNamedLine name → TakesNumber i → TakesName i → is_distance i ≡ false
      → IsLoaded base (Some name)
  address_loads base name nl t takes near =
      let s = nl.line_ in
      let f : Fixup = fixup_of false off names (insn_use i name) in
      let eight : immediate_size i ≡ 8 = address_size i takes near in
      let five : f.kind ≡ 5 = ap (λ b. if b then distance_kind (immediate_size i) else 5) near in
      let r : ℕ = p + length t.front in
      let at : place_of l.home f ≡ r = number_place l front names i name t in
      let there : Contains image.relocs r = (s.linked.relocs r).1 (l, f, s.there, nl.its, five, sym at) in
      let number = ap (λ x. number_at image x 8) (sym at) ∙ (holds_address plan.base image l f nl.place five nl.holds
      ∙ ap (λ x. x + nl.place) (sym s.linked.base)) in
      let m : ℕ = (base + nl.place) % 2 ^ 64 in
      let small : m < 2 ^ (8 * immediate_size i) = rw eight (omega arith) in
      let v : ℤ = signed_at (8 * immediate_size i) m in
      let v_is : v ≡ signed_at 64 m = ap (λ k. signed_at (8 * k) m) eight in (
        with_immediate i v,
        (nl.place, v, nl.stands, subst (λ b. IsNumberBy b i base (p + n) nl.place v) (sym near) v_is, refl),
        number_loads base name t m s small
            (λ k low. address_bytes image base nl.place r k s.bytes s.linked.layout.base s.linked.layout.apart there number (omega
            (arith, low, eight))),
      )

  distance_loads : (base : ℕ) (name : List ℕ) → IsNamedLine name → TakesNumber i → is_distance i ≡ true → IsLoaded base (Some name)
  distance_loads base name nl t far =
      let s = nl.line_ in
      let size : ℕ = immediate_size i in
      let f : Fixup = fixup_of false off names (insn_use i name) in
      let kind : f.kind ≡ distance_kind size = ap (λ b. if b then distance_kind size else 5) far in
      let from : f.from ≡ off + n = ap (λ b. from_of off (if b then Some n else None)) far in
      let four : f.kind ≤ 4 = let few = (size_fits i).few in omega (arith, kind, few) in
      let r : ℕ = p + length t.front in
      let m : ℕ = number_at image r size in
      let v : ℤ = signed_at (8 * size) m in
      let distance = subst (λ k. IsFar image nl.place (p + n) r k) (ap width kind ∙ (size_fits i).wide)
      (subst (λ x. IsFar image nl.place (p + n) x (width f.kind)) (number_place l front names i name t)
      (subst (λ x. IsFar image nl.place x (place_of l.home f) (width f.kind)) (ap (λ x. l.home.code + x) from ∙ omega arith)
      (holds_distance plan.base image l f nl.place four nl.holds))) in
      let long = front_long i t in (
        with_immediate i v,
        (nl.place, v, nl.stands, subst (λ b. IsNumberBy b i base (p + n) nl.place v) (sym far) distance, refl),
        number_loads base name t m s (subst (λ k. m < k) (size_fits i).power (little_endian-below (laid image.sections) r size s.bytes))
            (λ k low. distance_bytes image base r size k s.bytes low
            (each_of (IsAside l p n (Some f)) (λ x. is_of (r + k) x ≡ false) image.relocs
            (λ x h. aside_distance l p n r size k x f h four (omega arith) (omega (arith, long)) low) (line_asides (Some name) s))),
      )

  -- ---- together

  line_loads : (base : ℕ) (name : Option (List ℕ)) → IsLine name → InsnFits (i, name) → IsLoaded base name
  line_loads base None s fits = (i, refl, plain_loads base s fits.0)
  line_loads base (Some name) s fits =
      let nl = named_line name s in
      let takes = fits.1.0 in
      let t = takes_number i fits.0 takes in
      ⊎_elim (distance_loads base name nl t) (address_loads base name nl t takes) (cases_Bool (is_distance i))

pub linked_loads : LinkedLoads
linked_loads objects plan image base l front back line i name linked bytes all there is read_ statement code =
    let each : AllByRecursion IsRead (front ++ line ∷ back) = recursion_from_All IsRead (front ++ line ∷ back) read_ in
    let here : IsRead line = (all_back IsRead front (line ∷ back) each).0 in
    line_loads objects plan image l front back line i base name (record {
      linked = linked;
      all = all;
      bytes = bytes;
      there = there;
      is = is;
      fit = each_of IsRead LineFits (front ++ line ∷ back) (λ l r. line_fits r.0 l r.1) each;
      statement = statement;
      code = code;
    }) (insn_is_read here.0 line i name here.1 statement)
