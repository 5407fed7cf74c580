-- Zeros behind a file change nothing of the image that it is read as.
use Rattle.std.proofs.Common.{◌≡◌, ℕ, zero, suc, ◌+◌, ◌-◌, ◌*◌, ◌/◌, ◌%◌, ◌<◌, ◌≤◌, Bool, true, false, cond, ◌&&◌, ◌||◌, not, List, [], ◌∷◌}
use Rattle.std.proofs.Common.{◌++◌, length, get_or, map, take, drop, min, refl, sym, ap, ap₂, ◌∙◌, arith, length-append, Option}
use Rattle.std.proofs.Common.{Some, None, Ok}
use Rattle.std.specs.Prelude.{nat_eq, nat_le, nat_lt, bytes_eq, codes, slice_index, All, IfSome, if◌then◌else◌}
use Rattle.std.specs.List.{filter, find, list_any, range_with_len}
use Rattle.std.proofs.lemmas.Bool.{and_parts, le-leb, leb-true}
use Rattle.std.proofs.lemmas.List.Elements.{All-map, All-tail}
use Rattle.std.proofs.lemmas.List.FromFn.{get_or-range_with_len, length-range_with_len}
use Rattle.std.proofs.lemmas.List.{drop-append-le, take-append-le, length-drop}
use Rattle.ebc_width.proofs.ByteLaws.{little_endian-moved}
use Rattle.pe_image.specs.declared.fault.ImageFault.{ImageFault}
use Rattle.pe_image.specs.declared.fault.ImageFault.TheVariants as faults
use Rattle.pe_image.specs.declared.image.Image.{Image}
use Rattle.pe_image.specs.Fields.{bytes_at, number_at}
use Rattle.pe_image.specs.Files.{zeros}
use Rattle.pe_image.specs.Conditions.{Condition, align_condition, align_conditions, block_conditions, conditions, entry_conditions}
use Rattle.pe_image.specs.Conditions.{entry_point_conditions, first_fault, fit_condition, fit_conditions, fits, for_each, header_conditions}
use Rattle.pe_image.specs.Conditions.{home_conditions, is_aligned, is_entry, is_past, most, need, order_condition, order_conditions}
use Rattle.pe_image.specs.Conditions.{relocation_conditions, stub_conditions}
use Rattle.pe_image.specs.Images.{home_places, image_in, image_of, image_unless, is_kept, kept_sections, relocations, section_of}
use Rattle.pe_image.proofs.Blocks.{block_bounds, blocks_end_more, blocks_end_none, entries_more, entries_none, no_block_at_end}
use Rattle.pe_image.proofs.Firsts.{all_hold, first_stays, then_first}
use Rattle.pe_image.proofs.Parts.{heads, to_align, to_fit, to_order, to_relocate}
use Rattle.pe_image.specs.Headers.{directory, directory_count, directory_place, directory_size, end_of, entry_point, extent, has}
use Rattle.pe_image.specs.Headers.{image_base, image_size, in_section, machine, magic, optional, optional_size, section_alignment}
use Rattle.pe_image.specs.Headers.{section_at, section_count, section_table, sections, signature, subsystem}
use Rattle.pe_image.specs.Relocations.{block_entries, block_size, blocks_end, entries, entry_at, first_entries, has_blocks, has_directory}
use Rattle.pe_image.specs.Relocations.{home, is_block, named, page_at, span_in}
use Rattle.pe_image.proofs.Sound.{each_holds}

-- ---- the same numbers, and the same bytes as far as the shorter file goes

byte-zeros : (n i : ℕ) → get_or (zeros n) i 0 ≡ 0
byte-zeros zero i = refl
byte-zeros (suc n) zero = refl
byte-zeros (suc n) (suc i) = byte-zeros n i

byte-padded : (file : List ℕ) (n i : ℕ) → get_or (file ++ zeros n) i 0 ≡ get_or file i 0
byte-padded [] n i = byte-zeros n i
byte-padded (b ∷ bs) n zero = refl
byte-padded (b ∷ bs) n (suc i) = byte-padded bs n i

-- One file begins with the bytes of another, and has the same numbers.
pub record Extends (f g : List ℕ) : Type 0 where
  pub numbers : number_at g ≡ number_at f
  pub longer : length f ≤ length g
  pub bytes : (at n : ℕ) → at + n ≤ length f → bytes_at g at n ≡ bytes_at f at n

bytes-padded : (file more : List ℕ) (at n : ℕ) → at + n ≤ length file → bytes_at (file ++ more) at n ≡ bytes_at file at n
unfolding bytes_at
bytes-padded file more at n within =
    ap (take n) (drop-append-le at file more (omega arith))
    ∙ take-append-le n (drop at file) more (omega (arith, length-drop at file))

numbers-padded : (file : List ℕ) (n : ℕ) → number_at (file ++ zeros n) ≡ number_at file
unfolding number_at
numbers-padded file n =
    λ i k at. little_endian-moved (slice_index (file ++ zeros n)) (slice_index file) at at k (λ j below. byte-padded file n (at + j)) i

Extends-padded : (file : List ℕ) (n : ℕ) → Extends file (file ++ zeros n)
Extends-padded file n =
    record {
      numbers = numbers-padded file n;
      longer = omega (arith, length-append file (zeros n));
      bytes = bytes-padded file (zeros n);
    }

-- ---- the headers are the same

signature-same : (f g : List ℕ) → Extends f g → signature g ≡ signature f
unfolding signature
signature-same f g e = λ i. e.numbers i 4 60

optional-same : (f g : List ℕ) → Extends f g → optional g ≡ optional f
unfolding optional
optional-same f g e = λ i. signature-same f g e i + 24

optional_size-same : (f g : List ℕ) → Extends f g → optional_size g ≡ optional_size f
unfolding optional_size
optional_size-same f g e = λ i. e.numbers i 2 (signature-same f g e i + 20)

section_table-same : (f g : List ℕ) → Extends f g → section_table g ≡ section_table f
unfolding section_table
section_table-same f g e = λ i. optional-same f g e i + optional_size-same f g e i

section_count-same : (f g : List ℕ) → Extends f g → section_count g ≡ section_count f
unfolding section_count
section_count-same f g e = λ i. e.numbers i 2 (signature-same f g e i + 6)

entry_point-same : (f g : List ℕ) → Extends f g → entry_point g ≡ entry_point f
unfolding entry_point
entry_point-same f g e = λ i. e.numbers i 4 (optional-same f g e i + 16)

image_size-same : (f g : List ℕ) → Extends f g → image_size g ≡ image_size f
unfolding image_size
image_size-same f g e = λ i. e.numbers i 4 (optional-same f g e i + 56)

section_alignment-same : (f g : List ℕ) → Extends f g → section_alignment g ≡ section_alignment f
unfolding section_alignment
section_alignment-same f g e = λ i. e.numbers i 4 (optional-same f g e i + 32)

section_at-same : (f g : List ℕ) → Extends f g → section_at g ≡ section_at f
unfolding section_at
section_at-same f g e =
    λ i n.
    let at = section_table-same f g e i + 40 * n in
    record {
      at = at;
      virtual_size = e.numbers i 4 (at + 8);
      place = e.numbers i 4 (at + 12);
      raw_size = e.numbers i 4 (at + 16);
      raw_at = e.numbers i 4 (at + 20);
      flags = e.numbers i 4 (at + 36);
    }

sections-same : (f g : List ℕ) → Extends f g → sections g ≡ sections f
unfolding sections
sections-same f g e = λ i. map (section_at-same f g e i) (range_with_len 0 (section_count-same f g e i))

in_section-same : (f g : List ℕ) → Extends f g → in_section g ≡ in_section f
unfolding in_section
in_section-same f g e = λ i place n. list_any (has place n) (sections-same f g e i)

-- ---- so are the relocations

directory-same : (f g : List ℕ) → Extends f g → directory g ≡ directory f
unfolding directory
directory-same f g e = λ i. optional-same f g e i + 152

directory_place-same : (f g : List ℕ) → Extends f g → directory_place g ≡ directory_place f
unfolding directory_place
directory_place-same f g e = λ i. e.numbers i 4 (directory-same f g e i)

directory_size-same : (f g : List ℕ) → Extends f g → directory_size g ≡ directory_size f
unfolding directory_size
directory_size-same f g e = λ i. e.numbers i 4 (directory-same f g e i + 4)

has_directory-same : (f g : List ℕ) → Extends f g → has_directory g ≡ has_directory f
unfolding has_directory directory_count
has_directory-same f g e =
    λ i.
    nat_lt 5 (e.numbers i 4 (optional-same f g e i + 108)) && nat_le 160 (optional_size-same f g e i)
    && nat_lt 0 (directory_size-same f g e i)

has_blocks-same : (f g : List ℕ) → Extends f g → has_blocks g ≡ has_blocks f
has_blocks-same f g e =
    λ i s.
    nat_le s.place (directory_place-same f g e i)
    && nat_le (directory_place-same f g e i + directory_size-same f g e i) (s.place + s.raw_size)

home-same : (f g : List ℕ) → Extends f g → home g ≡ home f
unfolding home
home-same f g e = λ i. find (has_blocks-same f g e i) (sections-same f g e i)

span_in-same : (f g : List ℕ) → Extends f g → span_in g ≡ span_in f
unfolding span_in
span_in-same f g e =
    λ i s.
    let start = s.raw_at + (directory_place-same f g e i - s.place) in
    record { start = start; end = start + directory_size-same f g e i }

page_at-same : (f g : List ℕ) → Extends f g → page_at g ≡ page_at f
unfolding page_at
page_at-same f g e = λ i at. e.numbers i 4 at

block_size-same : (f g : List ℕ) → Extends f g → block_size g ≡ block_size f
unfolding block_size
block_size-same f g e = λ i at. e.numbers i 4 (at + 4)

entry_at-same : (f g : List ℕ) → Extends f g → entry_at g ≡ entry_at f
unfolding entry_at
entry_at-same f g e =
    λ i page at. record { at = at; kind = e.numbers i 2 at / 4096; place = page + e.numbers i 2 at % 4096 }

block_entries-same : (f g : List ℕ) → Extends f g → block_entries g ≡ block_entries f
unfolding block_entries first_entries
block_entries-same f g e =
    λ i at.
    map (λ n. entry_at-same f g e i (page_at-same f g e i at) (at + 8 + 2 * n))
    (range_with_len 0 ((block_size-same f g e i at - 8) / 2))

is_block-same : (f g : List ℕ) → Extends f g → is_block g ≡ is_block f
unfolding is_block
is_block-same f g e =
    λ i end at.
    nat_le (at + 8) end && nat_le 8 (block_size-same f g e i at) && nat_eq (block_size-same f g e i at % 2) 0
    && nat_le (at + block_size-same f g e i at) end

-- The blocks from an offset on have the same entries, and end alike.
record BlocksSame (f g : List ℕ) (end at : ℕ) : Type 0 where
  pub entries_are : entries g end at ≡ entries f end at
  pub ends_are : blocks_end g end at ≡ blocks_end f end at

no_block : (f g : List ℕ) (end at : ℕ) → Extends f g → is_block f end at ≡ false → BlocksSame f g end at
no_block f g end at e none =
    let none' : is_block g end at ≡ false = ap (λ (p : ℕ → ℕ → Bool). p end at) (is_block-same f g e) ∙ none in
    record {
      entries_are = entries_none g end at none' ∙ sym (entries_none f end at none);
      ends_are = blocks_end_none g end at none' ∙ sym (blocks_end_none f end at none);
    }

one_block :
    (f g : List ℕ) (end at : ℕ) → Extends f g → end ≤ length f → is_block f end at ≡ true →
    BlocksSame f g end (at + block_size f at) → BlocksSame f g end at
one_block f g end at e within holds rest =
    let holds' : is_block g end at ≡ true = ap (λ (p : ℕ → ℕ → Bool). p end at) (is_block-same f g e) ∙ holds in
    let size : block_size g at ≡ block_size f at = ap (λ (p : ℕ → ℕ). p at) (block_size-same f g e) in
    let room : end ≤ length g = omega (arith, e.longer) in
    record {
      entries_are = entries_more g end at room holds'
          ∙ (ap₂ (λ es n. es ++ entries g end (at + n)) (λ i. block_entries-same f g e i at) size
          ∙ (ap (λ es. block_entries f at ++ es) rest.entries_are ∙ sym (entries_more f end at within holds)));
      ends_are = blocks_end_more g end at room holds'
          ∙ (ap (λ n. blocks_end g end (at + n)) size ∙ (rest.ends_are ∙ sym (blocks_end_more f end at within holds)));
    }

blocks-same : (f g : List ℕ) (n end at : ℕ) → Extends f g → end ≤ length f → end ≤ at + n → BlocksSame f g end at
blocks-same f g zero end at e within enough = no_block f g end at e (no_block_at_end f end at (omega arith))
blocks-same f g (suc n) end at e within enough =
    by_block (is_block f end at) refl
    (λ holds.
    let bounds = block_bounds f end at holds in
    blocks-same f g n end (at + block_size f at) e within (omega (arith, bounds.0)))
  where
    by_block :
        (b : Bool) → is_block f end at ≡ b → (is_block f end at ≡ true → BlocksSame f g end (at + block_size f at)) →
        BlocksSame f g end at
    by_block false none rest = no_block f g end at e none
    by_block true holds rest = one_block f g end at e within holds (rest holds)

-- ---- lists of conditions

passed : (b : Bool) (x : ImageFault × ℕ) (rest : Option (ImageFault × ℕ)) → cond b rest (Some x) ≡ None → (b ≡ true) × (rest ≡ None)
passed true x rest e = (refl, e)
passed false x rest e = absurd cc

parts : (cs ds : List Condition) → first_fault (cs ++ ds) ≡ None → (first_fault cs ≡ None) × (first_fault ds ≡ None)
parts cs ds none = by_first (first_fault cs) refl
  where
    by_first : (o : Option (ImageFault × ℕ)) → first_fault cs ≡ o → (first_fault cs ≡ None) × (first_fault ds ≡ None)
    by_first None h = (h, sym (then_first cs ds h) ∙ none)
    by_first (Some x) fails = let stays = first_stays cs ds x fails in absurd cc

-- ---- the conditions hold of the longer file

longer_too : (n : ℕ) (f g : List ℕ) → Extends f g → nat_le n (length f) ≡ true → nat_le n (length g) ≡ true
longer_too n f g e h = le-leb n (length g) (omega (arith, leb-true n (length f) h, e.longer))

mark-same : (f g : List ℕ) → Extends f g → 64 ≤ length f → bytes_at g 0 2 ≡ bytes_at f 0 2
mark-same f g e least = e.bytes 0 2 (omega arith)

sign-same : (f g : List ℕ) → Extends f g → signature f + 24 ≤ length f → bytes_at g (signature g) 4 ≡ bytes_at f (signature f) 4
sign-same f g e room = ap (λ s. bytes_at g s 4) (signature-same f g e) ∙ e.bytes (signature f) 4 (omega arith)

stub-holds : (f g : List ℕ) → Extends f g → first_fault (stub_conditions f) ≡ None → first_fault (stub_conditions g) ≡ None
stub-holds f g e none =
    let short = passed _ _ _ none in
    let mz = passed _ _ _ short.1 in
    let coff = passed _ _ _ mz.1 in
    let pe = passed _ _ _ coff.1 in
    let least : 64 ≤ length f = leb-true 64 (length f) short.0 in
    let room : signature f + 24 ≤ length f = leb-true (signature f + 24) (length f) coff.0 in
    let short' : nat_le 64 (length g) ≡ true = longer_too 64 f g e short.0 in
    let mz' : bytes_eq (bytes_at g 0 2) (codes "MZ") ≡ true = ap (λ bs. bytes_eq bs (codes "MZ")) (mark-same f g e least) ∙ mz.0 in
    let coff' : nat_le (signature g + 24) (length g) ≡ true = ap (λ s. nat_le (s + 24) (length g)) (signature-same f g e)
    ∙ longer_too (signature f + 24) f g e coff.0 in
    let pe' : bytes_eq (bytes_at g (signature g) 4) (codes "PE" ++ 0 ∷ 0 ∷ []) ≡ true =
    ap (λ bs. bytes_eq bs (codes "PE" ++ 0 ∷ 0 ∷ [])) (sign-same f g e room) ∙ pe.0 in
    rw (short', mz', coff', pe') refl

header-holds : (f g : List ℕ) → Extends f g → first_fault (header_conditions f) ≡ None → first_fault (header_conditions g) ≡ None
unfolding machine magic
header-holds f g e none =
    let ebc = passed _ _ _ none in
    let table = passed _ _ _ ebc.1 in
    let pe32 = passed _ _ _ table.1 in
    let room = and_parts (nat_le 112 (optional_size f)) _ table.0 in
    let ebc' : nat_eq (machine g) 0x0EBC ≡ true = (λ i. nat_eq (e.numbers i 2 (signature-same f g e i + 4)) 0x0EBC) ∙ ebc.0 in
    let fields' : nat_le 112 (optional_size g) ≡ true = ap (nat_le 112) (optional_size-same f g e) ∙ room.0 in
    let table' : nat_le (section_table g + 40 * section_count g) (length g) ≡ true =
    (λ i. nat_le (section_table-same f g e i + 40 * section_count-same f g e i) (length g))
    ∙ longer_too (section_table f + 40 * section_count f) f g e room.1 in
    let pe32' : nat_eq (magic g) 0x020B ≡ true = (λ i. nat_eq (e.numbers i 2 (optional-same f g e i)) 0x020B) ∙ pe32.0 in
    rw (ebc', fields', table', pe32') refl

fits-too : (f g : List ℕ) (n : ℕ) → Extends f g → fits f (section_at f n) ≡ true → fits g (section_at g n) ≡ true
fits-too f g n e h =
    let inside = and_parts (nat_le ((section_at f n).raw_at + (section_at f n).raw_size) (length f)
    && nat_le (end_of (section_at f n)) (image_size f)) _ h in
    let raw = and_parts (nat_le ((section_at f n).raw_at + (section_at f n).raw_size) (length f)) _ inside.0 in
    let raw' : nat_le ((section_at f n).raw_at + (section_at f n).raw_size) (length g) ≡ true =
    longer_too ((section_at f n).raw_at + (section_at f n).raw_size) f g e raw.0 in
    let end : nat_le (end_of (section_at f n)) (image_size f) ≡ true = raw.1 in
    let small : nat_le (image_size f) most ≡ true = inside.1 in
    (λ i.
    nat_le ((section_at-same f g e i n).raw_at + (section_at-same f g e i n).raw_size) (length g)
    && nat_le (end_of (section_at-same f g e i n)) (image_size-same f g e i) && nat_le (image_size-same f g e i) most)
    ∙ rw (raw', end, small) refl

fit-holds : (f g : List ℕ) → Extends f g → first_fault (fit_conditions f) ≡ None → first_fault (fit_conditions g) ≡ None
unfolding fit_conditions fit_condition
fit-holds f g e none =
    let some = passed _ _ _ none in
    let some' : nat_lt 0 (section_count g) ≡ true = ap (nat_lt 0) (section_count-same f g e) ∙ some.0 in
    rw some'
    (all_hold (fit_condition g) (section_count g)
    (λ n within. fits-too f g n e (each_holds (fit_condition f) (section_count f) n some.1 (rw (section_count-same f g e) at within))))

order-same : (f g : List ℕ) → Extends f g → order_conditions g ≡ order_conditions f
unfolding order_conditions order_condition
order-same f g e =
    λ i.
    for_each (section_count-same f g e i - 1)
    (λ n. need (nat_le (end_of (section_at-same f g e i n)) (section_at-same f g e i (n + 1)).place) faults.Overlap
    (section_at-same f g e i (n + 1)).at)

align-same : (f g : List ℕ) → Extends f g → align_conditions g ≡ align_conditions f
unfolding align_conditions align_condition
align-same f g e =
    λ i.
    for_each (section_count-same f g e i)
    (λ n. need (is_aligned (section_alignment-same f g e i) (section_at-same f g e i n).place) faults.Align (section_at-same f g e i n).at)

enter-same : (f g : List ℕ) → Extends f g → entry_point_conditions g ≡ entry_point_conditions f
unfolding entry_point_conditions
enter-same f g e =
    λ i.
    need (nat_eq (entry_point-same f g e i % 2) 0 && in_section-same f g e i (entry_point-same f g e i) 1) faults.Entry
    (optional-same f g e i + 16) ∷ []

-- ---- relocations

-- two functions of a list agree, where they do so on each list with one more element
agree :
    {A E X : Type 0} (u v : A → List E → X) → ((a : A) → u a [] ≡ v a []) →
    ((a : A) (x : E) (xs : List E) → ((b : A) → u b xs ≡ v b xs) → u a (x ∷ xs) ≡ v a (x ∷ xs)) → (a : A) (xs : List E) → u a xs ≡ v a xs
agree u v none more a [] = none a
agree u v none more a (x ∷ xs) = more a x xs (λ b. agree u v none more b xs)

entry_conditions-same : (f g : List ℕ) → Extends f g → entry_conditions g ≡ entry_conditions f
unfolding is_entry
entry_conditions-same f g e =
    λ i places es.
    agree (entry_conditions g) (entry_conditions f) (λ ps. refl)
    (λ ps x xs rest.
    λ j.
    need (nat_eq x.kind 0 || (nat_eq x.kind 10 && is_past ps x.place && in_section-same f g e j x.place 8)) faults.Reloc x.at ∷ rest
    (ps ++ named (x ∷ [])) j)
    places es i

block_conditions-same :
    (f g : List ℕ) (end at : ℕ) → Extends f g → end ≤ length f → block_conditions g end [] at ≡ block_conditions f end [] at
unfolding block_conditions
block_conditions-same f g end at e within =
    let same : BlocksSame f g end at = blocks-same f g end end at e within (omega arith) in
    λ i. entry_conditions-same f g e i [] (same.entries_are i) ++ need (nat_eq (same.ends_are i) end) faults.Reloc (same.ends_are i) ∷ []

-- what a search finds
found : {X : Type 0} (p : X → Bool) (P : X → Type 0) (xs : List X) → All (λ x. p x ≡ true → P x) xs → IfSome (find p xs) P
found p P [] all = tt
found p P (x ∷ xs) all = by_test (p x) refl (found p P xs (All-tail (λ y. p y ≡ true → P y) x xs all))
  where
    by_test : (b : Bool) → p x ≡ b → IfSome (find p xs) P → IfSome (if b then Some x else find p xs) P
    by_test true here rest = all 0 x (omega arith) here
    by_test false here rest = rest

-- what holds of each value by its number holds of all
all_numbered : {X : Type 0} (h : ℕ → X) (n : ℕ) (P : X → Type 0) → ((i : ℕ) → i < n → P (h i)) → All P (map h (range_with_len 0 n))
all_numbered h n P each_holds =
    All-map P h (range_with_len 0 n)
    (λ k d within.
    let inside : k < n = omega (arith, length-range_with_len 0 n) in
    let place : get_or (range_with_len 0 n) k d ≡ k = get_or-range_with_len 0 n k d inside ∙ omega arith in
    rw place (each_holds k inside))

-- The raw data of the sections, and their headers, lie in the file.
pub record AreInside (f : List ℕ) : Type 0 where
  pub raw : (n : ℕ) → n < section_count f → (section_at f n).raw_at + (section_at f n).raw_size ≤ length f
  pub table : section_table f + 40 * section_count f ≤ length f

-- so the relocations do
home_inside : (f : List ℕ) → AreInside f → IfSome (home f) (λ s. (span_in f s).end ≤ length f)
unfolding home sections span_in
home_inside f inside =
    found (has_blocks f) (λ s. (span_in f s).end ≤ length f) (map (section_at f) (range_with_len 0 (section_count f)))
    (all_numbered (section_at f) (section_count f) (λ s. has_blocks f s ≡ true → (span_in f s).end ≤ length f)
    (λ n within holds.
    let room : (section_at f n).raw_at + (section_at f n).raw_size ≤ length f = inside.raw n within in
    let both = and_parts (nat_le (section_at f n).place (directory_place f)) _ holds in
    let low : (section_at f n).place ≤ directory_place f = leb-true _ _ both.0 in
    let high : directory_place f + directory_size f ≤ (section_at f n).place + (section_at f n).raw_size = leb-true _ _ both.1 in
    omega arith))

home_conditions-same : (f g : List ℕ) → Extends f g → AreInside f → home_conditions g (home g) ≡ home_conditions f (home f)
home_conditions-same f g e inside =
    ap (home_conditions g) (home-same f g e)
    ∙ (elim (home f) as (λ h. IfSome h (λ s. (span_in f s).end ≤ length f) → home_conditions g h ≡ home_conditions f h) [
      | None ↦ λ none. λ i. need false faults.Reloc (directory-same f g e i) ∷ []
      | Some s ↦
          λ within.
          (λ i. block_conditions g (span_in-same f g e i s).end [] (span_in-same f g e i s).start)
          ∙ block_conditions-same f g (span_in f s).end (span_in f s).start e within
    ]) (home_inside f inside)

relocate-same : (f g : List ℕ) → Extends f g → AreInside f → relocation_conditions g ≡ relocation_conditions f
unfolding relocation_conditions
relocate-same f g e inside = λ i. if has_directory-same f g e i then home_conditions-same f g e inside i else []

-- ---- the image

home_places-same : (f g : List ℕ) → Extends f g → AreInside f → home_places g (home g) ≡ home_places f (home f)
home_places-same f g e inside =
    ap (home_places g) (home-same f g e)
    ∙ (elim (home f) as (λ h. IfSome h (λ s. (span_in f s).end ≤ length f) → home_places g h ≡ home_places f h) [
      | None ↦ λ none. refl
      | Some s ↦
          λ within.
          (λ i. named (entries g (span_in-same f g e i s).end (span_in-same f g e i s).start))
          ∙ ap named (blocks-same f g (span_in f s).end (span_in f s).end (span_in f s).start e within (omega arith)).entries_are
    ]) (home_inside f inside)

relocations-same : (f g : List ℕ) → Extends f g → AreInside f → relocations g ≡ relocations f
unfolding relocations
relocations-same f g e inside = λ i. if has_directory-same f g e i then home_places-same f g e inside i else []

-- what is kept of a list by two tests, and made of it by two functions, is the same where these agree
kept_alike :
    {X Y : Type 0} (v w : X → Y) (p q : X → Bool) (xs : List X) → All (λ x. (v x ≡ w x) × (p x ≡ q x)) xs →
    map v (filter p xs) ≡ map w (filter q xs)
kept_alike v w p q [] all = refl
kept_alike {X = X} v w p q (x ∷ xs) all =
    let here : (v x ≡ w x) × (p x ≡ q x) = all 0 x (omega arith) in
    ap (λ b. map v (cond b (x ∷ filter p xs) (filter p xs))) here.1
    ∙ by_test (q x) here.0 (kept_alike v w p q xs (All-tail (λ y. (v y ≡ w y) × (p y ≡ q y)) x xs all))
  where
    by_test :
        (b : Bool) → v x ≡ w x → map v (filter p xs) ≡ map w (filter q xs) →
        map v (cond b (x ∷ filter p xs) (filter p xs)) ≡ map w (cond b (x ∷ filter q xs) (filter q xs))
    by_test true here rest = ap₂ (λ y ys. y ∷ ys) here rest
    by_test false here rest = rest

section_of-same :
    (f g : List ℕ) (n : ℕ) → Extends f g → AreInside f → n < section_count f →
    (section_of g (section_at f n) ≡ section_of f (section_at f n)) × (is_kept g (section_at f n) ≡ is_kept f (section_at f n))
unfolding section_of is_kept section_at
section_of-same f g n e inside within =
    let raw = inside.raw n within in
    let table = inside.table in
    let name = e.bytes (section_at f n).at 8 (omega arith) in
    let bytes = e.bytes (section_at f n).raw_at (min (section_at f n).raw_size (extent (section_at f n))) (omega arith) in (
      λ i.
          record {
            name = name i;
            place = (section_at f n).place;
            size = extent (section_at f n);
            flags = (section_at f n).flags;
            bytes = bytes i;
          },
      λ i. not (bytes_eq (name i) (codes ".reloc" ++ 0 ∷ 0 ∷ [])),
    )

kept_sections-same : (f g : List ℕ) → Extends f g → AreInside f → kept_sections g ≡ kept_sections f
unfolding kept_sections sections
kept_sections-same f g e inside =
    (λ i. map (section_of g) (filter (is_kept g) (map (section_at-same f g e i) (range_with_len 0 (section_count-same f g e i)))))
    ∙ kept_alike (section_of g) (section_of f) (is_kept g) (is_kept f) (map (section_at f) (range_with_len 0 (section_count f)))
    (all_numbered (section_at f) (section_count f) (λ s. (section_of g s ≡ section_of f s) × (is_kept g s ≡ is_kept f s))
    (λ n within. section_of-same f g n e inside within))

image-same : (f g : List ℕ) → Extends f g → AreInside f → image_in g ≡ image_in f
unfolding image_in image_base subsystem
image-same f g e inside =
    λ i.
    record {
      base = e.numbers i 8 (optional-same f g e i + 24);
      entry = entry_point-same f g e i;
      size = image_size-same f g e i;
      subsystem = e.numbers i 2 (optional-same f g e i + 68);
      sections = kept_sections-same f g e inside i;
      relocs = relocations-same f g e inside i;
    }

-- ---- all

inside-read : (f : List ℕ) → first_fault (header_conditions f) ≡ None → first_fault (fit_conditions f) ≡ None → AreInside f
unfolding fit_conditions fit_condition
inside-read f heads fit =
    let ebc = passed _ _ _ heads in
    let table = passed _ _ _ ebc.1 in
    let room = and_parts (nat_le 112 (optional_size f)) _ table.0 in
    let some = passed _ _ _ fit in
    record {
      raw = λ n within.
          let holds = each_holds (fit_condition f) (section_count f) n some.1 within in
          let inside = and_parts (nat_le ((section_at f n).raw_at + (section_at f n).raw_size) (length f)
          && nat_le (end_of (section_at f n)) (image_size f)) _ holds in
          leb-true _ _ (and_parts (nat_le ((section_at f n).raw_at + (section_at f n).raw_size) (length f)) _ inside.0).0;
      table = leb-true _ _ room.1;
    }

all-hold : (f g : List ℕ) → Extends f g → first_fault (conditions f) ≡ None → (first_fault (conditions g) ≡ None) × AreInside f
unfolding conditions
all-hold f g e none =
    let enter = parts (to_relocate f) (entry_point_conditions f) none in
    let relocate = parts (to_align f) (relocation_conditions f) enter.0 in
    let align = parts (to_order f) (align_conditions f) relocate.0 in
    let order = parts (to_fit f) (order_conditions f) align.0 in
    let fit = parts (heads f) (fit_conditions f) order.0 in
    let head = parts (stub_conditions f) (header_conditions f) fit.0 in
    let inside : AreInside f = inside-read f head.1 fit.1 in
    let stub' : first_fault (stub_conditions g) ≡ None = stub-holds f g e head.0 in
    let head' : first_fault (header_conditions g) ≡ None = header-holds f g e head.1 in
    let fit' : first_fault (fit_conditions g) ≡ None = fit-holds f g e fit.1 in
    let order' : first_fault (order_conditions g) ≡ None = ap first_fault (order-same f g e) ∙ order.1 in
    let align' : first_fault (align_conditions g) ≡ None = ap first_fault (align-same f g e) ∙ align.1 in
    let relocate' : first_fault (relocation_conditions g) ≡ None = ap first_fault (relocate-same f g e inside) ∙ relocate.1 in
    let enter' : first_fault (entry_point_conditions g) ≡ None = ap first_fault (enter-same f g e) ∙ enter.1 in
    let heads' : first_fault (heads g) ≡ None = then_first (stub_conditions g) (header_conditions g) stub' ∙ head' in
    let to_fit' : first_fault (to_fit g) ≡ None = then_first (heads g) (fit_conditions g) heads' ∙ fit' in
    let to_order' : first_fault (to_order g) ≡ None = then_first (to_fit g) (order_conditions g) to_fit' ∙ order' in
    let to_align' : first_fault (to_align g) ≡ None = then_first (to_order g) (align_conditions g) to_order' ∙ align' in
    let to_relocate' : first_fault (to_relocate g) ≡ None = then_first (to_align g) (relocation_conditions g) to_align' ∙ relocate' in
    (then_first (to_relocate g) (entry_point_conditions g) to_relocate' ∙ enter', inside)

pub padded-same : (file : List ℕ) (n : ℕ) (image : Image) → image_of file ≡ Ok image → image_of (file ++ zeros n) ≡ Ok image
unfolding image_of
padded-same file n image is = by_first (first_fault (conditions file)) refl is
  where
    by_first :
        (o : Option (ImageFault × ℕ)) → first_fault (conditions file) ≡ o → image_unless file o ≡ Ok image →
        image_of (file ++ zeros n) ≡ Ok image
    by_first None none read =
        let e : Extends file (file ++ zeros n) = Extends-padded file n in
        let both = all-hold file (file ++ zeros n) e none in
        ap (image_unless (file ++ zeros n)) both.0 ∙ (ap Ok (image-same file (file ++ zeros n) e both.1) ∙ read)
    by_first (Some x) none read = absurd cc
