-- The blocks of relocations that are written are read again.
use Rattle.std.proofs.Common.{◌≡◌, ℕ, zero, suc, ◌+◌, ◌-◌, ◌*◌, ◌/◌, ◌%◌, ◌^◌, ◌<◌, ◌≤◌, ◌⊎◌, inl, inr, Bool, true, false, cond, List, []}
use Rattle.std.proofs.Common.{◌∷◌, ◌++◌, length, map, drop, refl, sym, ap, ap₂, subst, ◌∙◌, arith, append_assoc, length-append}
use Rattle.std.specs.Prelude.{nat_eq, nat_le, All, AllPairs}
use Rattle.std.specs.Int.{w32, to_le_bytes}
use Rattle.std.specs.List.{flat_map, range_with_len}
use Rattle.std.proofs.lemmas.Bool.Decides.{nat_tests}
use Rattle.std.proofs.lemmas.List.{append-nil, length-replicate, map-append, take-append-drop}
use Rattle.std.proofs.lemmas.List.Elements.{All-tail}
use Rattle.pe_image.specs.declared.relocations.Entry.{Entry}
use Rattle.ebc_width.specs.Bytes.{little_endian}
use Rattle.pe_image.specs.Fields.{u16_at, number_at}
use Rattle.pe_image.specs.Files.{block_bytes, entry_bytes, entry_count, on_page, zeros}
use Rattle.pe_image.specs.Images.{IsBelow}
use Rattle.pe_image.specs.Relocations.{block_entries, block_size, blocks_end, entries, entry_at, first_entries, is_block, named, page_at}
use Rattle.pe_image.specs.Walks.{from_page}
use Rattle.pe_image.proofs.Blocks.{blocks_end_more, blocks_end_none, entries_more, entries_none, named-append, no_block_at_end}
use Rattle.pe_image.proofs.Front.{past}
use Rattle.pe_image.proofs.Numbered.{range_join}
use Rattle.pe_image.proofs.Numbers.{number_from}
use Rattle.pe_image.proofs.Pages.{count_on, from_first, page_bytes, page_first, page_rest}

-- each entry is of type 0 or 10
abbrev pub AreKinds : List Entry → Type 0
AreKinds [] = Unit {0}
AreKinds (e ∷ es) = ((e.kind ≡ 0) ⊎ (e.kind ≡ 10)) × AreKinds es

kinds-append : (es fs : List Entry) → AreKinds es → AreKinds fs → AreKinds (es ++ fs)
kinds-append [] fs a b = b
kinds-append (e ∷ es) fs a b = (a.0, kinds-append es fs a.1 b)

-- entries that name these places, and no others
pub record Name (es : List Entry) (places : List ℕ) : Type 0 where
  pub named_are : named es ≡ places
  pub kinds : AreKinds es

Name-append : (es fs : List Entry) (ps qs : List ℕ) → Name es ps → Name fs qs → Name (es ++ fs) (ps ++ qs)
Name-append es fs ps qs a b =
    record { named_are = named-append es fs ∙ ap₂ (λ x y. x ++ y) a.named_are b.named_are; kinds = kinds-append es fs a.kinds b.kinds }

-- places on one page
abbrev pub OnPage : ℕ → List ℕ → Type 0
OnPage k [] = Unit {0}
OnPage k (q ∷ qs) = (q / 4096 ≡ k) × OnPage k qs

on_page-is : (k : ℕ) (ps : List ℕ) → OnPage k (on_page k ps)
on_page-is k [] = tt
on_page-is k (p ∷ ps) = chosen k p (on_page k ps) (nat_eq (p / 4096) k) refl (on_page-is k ps)
  where
    chosen : (j q : ℕ) (qs : List ℕ) (b : Bool) → nat_eq (q / 4096) j ≡ b → OnPage j qs → OnPage j (cond b (q ∷ qs) qs)
    chosen j q qs true is rest = (grind (arith, nat_tests), rest)
    chosen j q qs false is rest = rest

-- ---- entries

raw-again : (file rest : List ℕ) (q at : ℕ) → drop at file ≡ entry_bytes q ++ rest → u16_at file at ≡ 10 * 4096 + q % 4096
unfolding number_at little_endian
raw-again file rest q at is = number_from 2 file (entry_bytes q ++ rest) at 0 at is (omega arith) ∙ omega arith

named_one : (e : Entry) (es : List Entry) (q : ℕ) (qs : List ℕ) → e.kind ≡ 10 → e.place ≡ q → Name es qs → Name (e ∷ es) (q ∷ qs)
unfolding named
named_one e es q qs kind place rest = record {
  named_are = rw (kind, place) (ap (λ ps. q ∷ ps) rest.named_are);
  kinds = (inr kind, rest.kinds);
}

-- the entries of places on a page name these
entries-again :
    (file rest : List ℕ) (k b a : ℕ) (qs : List ℕ) → OnPage k qs → drop (b + 2 * a) file ≡ flat_map entry_bytes qs ++ rest →
    Name (map (λ i. entry_at file (4096 * k) (b + 2 * i)) (range_with_len a (length qs))) qs
unfolding entry_at named
entries-again file rest k b a [] on is = record { named_are = refl; kinds = tt }
entries-again file rest k b a (q ∷ qs) on is =
    let here : drop (b + 2 * a) file ≡ entry_bytes q ++ (flat_map entry_bytes qs ++ rest) = is
    ∙ append_assoc (entry_bytes q) (flat_map entry_bytes qs) rest in
    let raw : u16_at file (b + 2 * a) ≡ 10 * 4096 + q % 4096 = raw-again file (flat_map entry_bytes qs ++ rest) q (b + 2 * a) here in
    let page : q / 4096 ≡ k = on.0 in
    let place : b + 2 * (a + 1) ≡ b + 2 * a + 2 = omega arith in
    let next : drop (b + 2 * (a + 1)) file ≡ flat_map entry_bytes qs
    ++ rest = rw place (past file (entry_bytes q) (flat_map entry_bytes qs ++ rest) (b + 2 * a) 2 here refl) in
    named_one (entry_at file (4096 * k) (b + 2 * a)) _ q qs (omega arith) (omega arith) (entries-again file rest k b (a + 1) qs on.1 next)

-- and the entry that pads a block names none
padding-again :
    (file rest : List ℕ) (page b n : ℕ) (odd : ℕ) → odd < 2 → drop (b + 2 * n) file ≡ zeros (2 * odd) ++ rest →
    Name (map (λ i. entry_at file page (b + 2 * i)) (range_with_len n odd)) []
unfolding entry_at named number_at little_endian
padding-again file rest page b n zero small is = record { named_are = refl; kinds = tt }
padding-again file rest page b n (suc zero) small is =
    let raw : u16_at file (b + 2 * n) ≡ 0 = number_from 2 file (zeros 2 ++ rest) (b + 2 * n) 0 (b + 2 * n) is (omega arith) in
    let kind : u16_at file (b + 2 * n) / 4096 ≡ 0 = omega arith in
    let other : nat_eq (u16_at file (b + 2 * n) / 4096) 10 ≡ false = grind (arith, nat_tests) in
    record { named_are = rw other refl; kinds = (inl kind, tt) }
padding-again file rest page b n (suc (suc odd)) small is = absurd (omega arith)

-- ---- a block

-- what is read of a block with these places, which `rest` follows
pub record IsRead (file : List ℕ) (end at n : ℕ) (qs rest : List ℕ) : Type 0 where
  pub block : is_block file end at ≡ true
  pub size : block_size file at ≡ n
  pub names : Name (block_entries file at) qs
  pub after : drop (at + n) file ≡ rest

entries-length : (qs : List ℕ) → length (flat_map entry_bytes qs) ≡ 2 * length qs
entries-length [] = refl
entries-length (q ∷ qs) = length-append (entry_bytes q) (flat_map entry_bytes qs) ∙ (ap (λ n. 2 + n) (entries-length qs) ∙ omega arith)

abbrev pub size_for : List ℕ → ℕ
size_for qs = 8 + 2 * entry_count (length qs)

block-parts : (k q : ℕ) (qs rest : List ℕ) →
    block_bytes k (q ∷ qs) ++ rest ≡ to_le_bytes w32 (4096 * k)
    ++ (to_le_bytes w32 (size_for (q ∷ qs)) ++ (flat_map entry_bytes (q ∷ qs) ++ (zeros (2 * (length (q ∷ qs) % 2)) ++ rest)))
unfolding block_bytes
block-parts k q qs rest = simp append_assoc

pub block-length : (k q : ℕ) (qs : List ℕ) → length (block_bytes k (q ∷ qs)) ≡ size_for (q ∷ qs)
unfolding block_bytes
block-length k q qs =
    let pad : length (zeros (2 * (length (q ∷ qs) % 2))) ≡ 2 * (length (q ∷ qs) % 2) = length-replicate (2 * (length (q ∷ qs) % 2)) 0 in
    let front : length (to_le_bytes w32 (4096 * k) ++ to_le_bytes w32 (size_for (q ∷ qs)) ++ flat_map entry_bytes (q ∷ qs)) ≡ 8 + 2 * length
    (q ∷ qs) = length-append (to_le_bytes w32 (4096 * k) ++ to_le_bytes w32 (size_for (q ∷ qs))) (flat_map entry_bytes (q ∷ qs))
    ∙ ap (λ n. 8 + n) (entries-length (q ∷ qs)) in
    length-append (to_le_bytes w32 (4096 * k) ++ to_le_bytes w32 (size_for (q ∷ qs)) ++ flat_map entry_bytes (q ∷ qs))
    (zeros (2 * (length (q ∷ qs) % 2)))
    ∙ (ap₂ (λ m n. m + n) front pad ∙ omega arith)

-- the bytes of a block behind its page, and behind its size
abbrev behind_page : ℕ → List ℕ → List ℕ → List ℕ
behind_page k qs rest = to_le_bytes w32 (size_for qs) ++ (flat_map entry_bytes qs ++ (zeros (2 * (length qs % 2)) ++ rest))

page-again : (file rest : List ℕ) (k at : ℕ) (qs : List ℕ) → k < 2 ^ 20 → drop at file ≡ to_le_bytes w32 (4096 * k) ++ behind_page k qs rest
    → page_at file at ≡ 4096 * k
unfolding page_at number_at little_endian
page-again file rest k at qs small is = number_from 4 file (to_le_bytes w32 (4096 * k) ++ behind_page k qs rest) at 0 at is (omega arith)
    ∙ omega arith

size-again : (file rest : List ℕ) (k at : ℕ) (qs : List ℕ) → length qs < 2 ^ 20 → drop at file ≡ to_le_bytes w32 (4096 * k)
    ++ behind_page k qs rest → block_size file at ≡ size_for qs
unfolding block_size number_at little_endian
size-again file rest k at qs few is = number_from 4 file (to_le_bytes w32 (4096 * k) ++ behind_page k qs rest) at 4 (at + 4) is refl
    ∙ omega arith

is_block-by : (file : List ℕ) (end at m : ℕ) → block_size file at ≡ 8 + 2 * m → at + (8 + 2 * m) ≤ end → is_block file end at ≡ true
unfolding is_block
is_block-by file end at m size fits =
    let low : nat_le (at + 8) end ≡ true = grind (arith, nat_tests) in
    let least : nat_le 8 (8 + 2 * m) ≡ true = grind (arith, nat_tests) in
    let half : (8 + 2 * m) % 2 ≡ 0 = omega arith in
    let high : nat_le (at + (8 + 2 * m)) end ≡ true = grind (arith, nat_tests) in
    rw (size, low, least, half, high) refl

entries-by :
    (file : List ℕ) (k at n odd : ℕ) (qs : List ℕ) → page_at file at ≡ 4096 * k → block_size file at ≡ 8 + 2 * (n + odd) →
    Name (map (λ i. entry_at file (4096 * k) (at + 8 + 2 * i)) (range_with_len 0 n)) qs →
    Name (map (λ i. entry_at file (4096 * k) (at + 8 + 2 * i)) (range_with_len (0 + n) odd)) [] →
    Name (block_entries file at) qs
unfolding block_entries first_entries
entries-by file k at n odd qs page size first pad =
    let f : ℕ → Entry = λ i. entry_at file (4096 * k) (at + 8 + 2 * i) in
    let count : (block_size file at - 8) / 2 ≡ n + odd = omega arith in
    let all : Name (map f (range_with_len 0 n) ++ map f (range_with_len (0 + n) odd)) (qs ++ []) = Name-append _ _ qs [] first pad in
    let joined : map f (range_with_len 0 (n + odd)) ≡ map f (range_with_len 0 n)
    ++ map f (range_with_len (0 + n) odd) = ap (map f) (range_join 0 n odd)
    ∙ map-append f (range_with_len 0 n) (range_with_len (0 + n) odd) in
    let same : Name (map f (range_with_len 0 (n + odd))) qs = subst (λ ps. Name (map f (range_with_len 0 (n + odd))) ps) (append-nil qs)
    (subst (λ es. Name es (qs ++ [])) (sym joined) all) in
    rw (count, page) same

pub block-again :
    (file rest : List ℕ) (k end at q : ℕ) (qs : List ℕ) → k < 2 ^ 20 → length (q ∷ qs) < 2 ^ 20 → OnPage k (q ∷ qs) →
    drop at file ≡ block_bytes k (q ∷ qs) ++ rest → at + length (block_bytes k (q ∷ qs)) ≤ end →
    IsRead file end at (length (block_bytes k (q ∷ qs))) (q ∷ qs) rest
block-again file rest k end at q qs small few on is fits =
    let ps : List ℕ = q ∷ qs in
    let n : ℕ = length ps in
    let whole : drop at file ≡ to_le_bytes w32 (4096 * k) ++ behind_page k ps rest = is ∙ block-parts k q qs rest in
    let count : length (block_bytes k ps) ≡ size_for ps = block-length k q qs in
    let page : page_at file at ≡ 4096 * k = page-again file rest k at ps small whole in
    let size : block_size file at ≡ size_for ps = size-again file rest k at ps few whole in
    let entries_at : drop (at + 8) file ≡ flat_map entry_bytes ps ++ (zeros (2 * (n % 2)) ++ rest) =
    past file (to_le_bytes w32 (4096 * k) ++ to_le_bytes w32 (size_for ps)) (flat_map entry_bytes ps ++ (zeros (2 * (n % 2)) ++ rest)) at 8
    (whole ∙ sym (append_assoc (to_le_bytes w32 (4096 * k)) (to_le_bytes w32 (size_for ps))
    (flat_map entry_bytes ps ++ (zeros (2 * (n % 2)) ++ rest)))) refl in
    let start : at + 8 + 2 * 0 ≡ at + 8 = omega arith in
    let pad_at : drop (at + 8 + 2 * n) file ≡ zeros (2 * (n % 2))
    ++ rest = past file (flat_map entry_bytes ps) (zeros (2 * (n % 2)) ++ rest) (at + 8) (2 * n) entries_at (entries-length ps) in
    let none : 0 + n ≡ n = omega arith in
    let first = entries-again file (zeros (2 * (n % 2)) ++ rest) k (at + 8) 0 ps on (rw start entries_at) in
    let pad = padding-again file rest (4096 * k) (at + 8) n (n % 2) (omega arith) pad_at in
    record {
      block = is_block-by file end at (entry_count n) size (omega arith);
      size = size ∙ sym count;
      names = entries-by file k at n (n % 2) ps page size first (rw none pad);
      after = past file (block_bytes k ps) rest at (length (block_bytes k ps)) is refl;
    }

-- ---- pages

-- the blocks of pages, read from an offset on, name the places on these pages
pub record AreRead (file : List ℕ) (end at : ℕ) (places : List ℕ) : Type 0 where
  pub names : Name (entries file end at) places
  pub all : blocks_end file end at ≡ end

end-read : (file : List ℕ) (end at : ℕ) → at ≡ end → AreRead file end at []
unfolding named
end-read file end at is =
    let none : is_block file end at ≡ false = no_block_at_end file end at (omega arith) in
    record {
      names = rw (entries_none file end at none) (record { named_are = refl; kinds = tt });
      all = blocks_end_none file end at none
          ∙ is;
    }

block-read :
    (file rest : List ℕ) (k end at n : ℕ) (qs more : List ℕ) → end ≤ length file → IsRead file end at n qs rest
    → AreRead file end (at + n) more →
    AreRead file end at (qs ++ more)
block-read file rest k end at n qs more within first later =
    let split : entries file end at ≡ block_entries file at ++ entries file end (at + n) = entries_more file end at within first.block
    ∙ ap (λ m. block_entries file at ++ entries file end (at + m)) first.size in
    record {
      names = rw split (Name-append (block_entries file at) (entries file end (at + n)) qs more first.names later.names);
      all = blocks_end_more file end at within first.block ∙ (ap (λ m. blocks_end file end (at + m)) first.size ∙ later.all);
    }

-- the places on some pages, page by page
abbrev pub on_pages : List ℕ → List ℕ → List ℕ
on_pages ps ks = flat_map (λ k. on_page k ps) ks

page-read :
    (file rest : List ℕ) (ps : List ℕ) (k end at : ℕ) (here more : List ℕ) → k < 2 ^ 20 → length here < 2 ^ 20 → OnPage k here
    → end ≤ length file →
    drop at file ≡ block_bytes k here ++ rest → at + length (block_bytes k here) ≤ end →
    (drop (at + length (block_bytes k here)) file ≡ rest → AreRead file end (at + length (block_bytes k here)) more) →
    AreRead file end at (here ++ more)
unfolding block_bytes
page-read file rest ps k end at [] more small few on within is fits next =
    let none : at + 0 ≡ at = omega arith in
    subst (λ a. AreRead file end a more) none (next (rw none is))
page-read file rest ps k end at (q ∷ qs) more small few on within is fits next =
    let read = block-again file rest k end at q qs small few on is fits in
    block-read file rest k end at (length (block_bytes k (q ∷ qs))) (q ∷ qs) more within read (next read.after)

filter-few : (k : ℕ) (ps : List ℕ) → length (on_page k ps) ≤ length ps
filter-few k [] = omega arith
filter-few k (p ∷ ps) = by_test (nat_eq (p / 4096) k) (filter-few k ps)
  where
    by_test : (b : Bool) → length (on_page k ps) ≤ length ps → length (cond b (p ∷ on_page k ps) (on_page k ps)) ≤ suc (length ps)
    by_test true h = omega arith
    by_test false h = omega arith

pub pages-read :
    (file rest : List ℕ) (ps : List ℕ) (end at a n : ℕ) → a + n ≤ 1024 → length ps < 2 ^ 20 → end ≤ length file →
    drop at file ≡ flat_map (page_bytes ps) (range_with_len a n) ++ rest
    → at + length (flat_map (page_bytes ps) (range_with_len a n)) ≡ end →
    AreRead file end at (on_pages ps (range_with_len a n))
pages-read file rest ps end at a zero small few within is stops = end-read file end at (omega arith)
pages-read file rest ps end at a (suc n) small few within is stops =
    let later : List ℕ = flat_map (page_bytes ps) (range_with_len (a + 1) n) in
    let whole : length (page_bytes ps a ++ later) ≡ length (page_bytes ps a) + length later = length-append (page_bytes ps a) later in
    page-read file (later ++ rest) ps a end at (on_page a ps) (on_pages ps (range_with_len (a + 1) n)) (omega arith)
    (omega (arith, filter-few a ps)) (on_page-is a ps) within
    (is ∙ append_assoc (page_bytes ps a) later rest) (omega arith)
    (λ next. pages-read file rest ps end (at + length (page_bytes ps a)) (a + 1) n (omega arith) few within next (omega arith))

-- the pages in their order have all places
pages-rest : (ps : List ℕ) (k n : ℕ) → AllPairs IsBelow ps → on_pages ps (range_with_len k n) ++ from_page (k + n) ps ≡ from_page k ps
pages-rest ps k zero apart = ap (λ j. from_page j ps) (omega arith)
pages-rest ps k (suc n) apart =
    let split : on_page k ps ++ from_page (k + 1) ps ≡ from_page k ps =
    ap₂ (λ x y. x ++ y) (sym (page_first k ps apart)) (sym (page_rest k ps apart))
    ∙ take-append-drop (count_on k (from_page k ps)) (from_page k ps) in
    let place : k + suc n ≡ k + 1 + n = omega arith in
    append_assoc (on_page k ps) (on_pages ps (range_with_len (k + 1) n)) (from_page (k + suc n) ps)
    ∙ (ap (λ qs. on_page k ps ++ (on_pages ps (range_with_len (k + 1) n) ++ qs)) (ap (λ j. from_page j ps) place)
    ∙ (ap (λ qs. on_page k ps ++ qs) (pages-rest ps (k + 1) n apart) ∙ split))

none-past : (ps : List ℕ) → All (λ p. p < 2 ^ 22) ps → from_page 1024 ps ≡ []
none-past [] all = refl
none-past (p ∷ ps) all =
    let low : p < 2 ^ 22 = all 0 p (omega arith) in
    let out : nat_le 1024 (p / 4096) ≡ false = grind (arith, nat_tests) in
    rw out (none-past ps (All-tail (λ q. q < 2 ^ 22) p ps all))

pub pages-all : (ps : List ℕ) → AllPairs IsBelow ps → All (λ p. p < 2 ^ 22) ps → on_pages ps (range_with_len 0 1024) ≡ ps
pages-all ps apart small =
    sym (append-nil (on_pages ps (range_with_len 0 1024)))
    ∙ (ap (λ qs. on_pages ps (range_with_len 0 1024) ++ qs) (sym (none-past ps small)) ∙ (pages-rest ps 0 1024 apart ∙ from_first ps))

-- where there are places there are bytes
pub no_bytes : (ps : List ℕ) (ks : List ℕ) → length (flat_map (page_bytes ps) ks) ≡ 0 → on_pages ps ks ≡ []
no_bytes ps [] none = refl
no_bytes ps (k ∷ ks) none =
    let both : length (page_bytes ps k) + length (flat_map (page_bytes ps) ks) ≡ 0 =
    sym (length-append (page_bytes ps k) (flat_map (page_bytes ps) ks)) ∙ none in
    ap₂ (λ x y. x ++ y) (empty k (on_page k ps) (omega arith)) (no_bytes ps ks (omega arith))
  where
    empty : (j : ℕ) (qs : List ℕ) → length (block_bytes j qs) ≡ 0 → qs ≡ []
    empty j [] h = refl
    empty j (q ∷ qs) h = absurd (omega (arith, block-length j q qs))
