-- What is listed at a place may stand in a listing; it is no heading and no label, and is an instruction in code alone.
use Rattle.link_laws.proofs.Common.{all_append, Bool, filter_map, in_section, ListedFits, named_place, read_length, takes_label, WellFormed}
use Rattle.link_laws.proofs.Common.{AllByRecursion, IfSome, label_before, label_lines, option_and_then, read_well_formed, without_immediate}
use Rattle.link_laws.proofs.Common.{arith, false, find, Image, Insn, labels, length, List, named, nat_eq, None, refl, Some, subst, true, ℕ}
use Rattle.link_laws.proofs.Common.{cond_some, IsBytes, label_fits, list_all, list_any, Listed, nat_tests, Option, or_right, with_label, []}
use Rattle.link_laws.proofs.Common.{◌++◌, ◌+◌, ◌<◌, ◌^◌, ◌∷◌, ◌≡◌, ◌≤◌}
use Rattle.link_laws.proofs.ItemLaws.{byte_here, fine, insn_here, IsItem, label_taken, labels_by, place_here, reloc_ends, word_here}
use Rattle.link_laws.proofs.{Lists.each_of, Lists.none_passes, SectionLaws.AreLines, SectionLaws.more_lines, SectionLaws.no_lines}
use Rattle.ebc_insn.specs.declared.Insn.TheVariants as insns
use Rattle.ebc_insn.specs.declared.Size.TheVariants as sizes
use Rattle.asm_text.specs.declared.listing.Listed.TheVariants as listed

-- ---- what lines are

-- whether a line is no heading and no label
abbrev pub is_body : Listed → Bool
is_body listed.Code = false
is_body listed.Data = false
is_body (listed.Label place) = false
is_body (listed.Global place) = false
is_body l = true

abbrev pub is_insn : Listed → Bool
is_insn (listed.Instruction i label) = true
is_insn l = false

-- whether a label in place of an immediate stands for an address
abbrev pub takes_address : Listed → Bool
takes_address (listed.Instruction i (Some target)) = takes_label i
takes_address l = true

-- a place has a label
abbrev pub IsLabelled : Image → ℕ → Type 0
IsLabelled image target = list_any (nat_eq target) (labels image) ≡ true

-- Places in sections are small.
abbrev pub AreLow : Image → Type 0
AreLow image = (x : ℕ) → in_section image x ≡ true → x < 2 ^ 32

abbrev pub is_head : Listed → Bool
is_head listed.Code = true
is_head listed.Data = true
is_head l = false

-- the place that a line names, of its own label or of another
abbrev pub place_in_line : Listed → Option ℕ
place_in_line (listed.Label place) = Some place
place_in_line (listed.Global place) = Some place
place_in_line (listed.Place target) = Some target
place_in_line (listed.Instruction i label) = label
place_in_line l = None

-- A line of the bytes of a section.
pub record IsLine (image : Image) (code : Bool) (l : Listed) : Type 0 where
  pub fits : ListedFits l
  pub head : is_head l ≡ false
  pub takes : takes_address l ≡ true
  pub place : IfSome (place_in_line l) (IsLabelled image)
  pub insn : code ≡ false → is_insn l ≡ false

-- What is listed at a place is such a line, and no label.
pub record IsBody (image : Image) (code : Bool) (l : Listed) : Type 0 where
  pub line : IsLine image code l
  pub body : is_body l ≡ true

-- ---- targets of relocations

pub named_inside : (image : Image) (r t : ℕ) → named image r ≡ Some t → in_section image t ≡ true
unfolding named
named_inside image r t is =
    let p = cond_some (in_section image (named_place image r)) (named_place image r) t is in
    subst (λ x. in_section image x ≡ true) p.1 p.0

any_target : (f : ℕ → Option ℕ) (rs : List ℕ) (r t : ℕ) → list_any (nat_eq r) rs ≡ true → f r ≡ Some t
    → list_any (nat_eq t) (filter_map f rs) ≡ true
any_target f [] r t here is = cc here
any_target f (q ∷ rs) r t here is = grind (arith, nat_tests, any_target f rs r t)

-- the target of a relocation has a label
pub target_labelled : (image : Image) (r t : ℕ) → list_any (nat_eq r) image.relocs ≡ true → named image r ≡ Some t → IsLabelled image t
unfolding labels
target_labelled image r t here is = or_right (nat_eq t image.entry) _ (any_target (named image) image.relocs r t here is)

-- ---- each that is listed

label_kept : (i : Insn) → takes_label i ≡ true → takes_label (without_immediate i) ≡ true
label_kept (insns.MoveImm sizes.Qword bits left lidx imm) h = h
label_kept (insns.Jump cond far relative op extra) h = h
label_kept (insns.Call far native relative op extra) h = h
label_kept i h = cc

label_body : (image : Image) (code : Bool) (i : Insn) (o : Option ℕ) → WellFormed i → code ≡ true
    → ((t : ℕ) → o ≡ Some t → (takes_label i ≡ true) × IsLabelled image t) → IsBody image code (with_label i o)
label_body image code i None fits in_code taken =
    record { line = record { fits = (fits, tt); head = refl; takes = refl; place = tt; insn = λ e. cc }; body = refl }
label_body image code i (Some t) fits in_code taken = record {
  line = record {
    fits = label_fits i t fits (taken t refl).0;
    head = refl;
    takes = label_kept i (taken t refl).0;
    place = (taken t refl).1;
    insn = λ e. cc;
  };
  body = refl;
}

before_taken : (image : Image) (i : Insn) (x n : ℕ) (o : Option ℕ) (t : ℕ) → 2 ≤ n → list_all (fine image i x n) image.relocs ≡ true
    → find (λ r. nat_eq (r + 8) (x + n)) image.relocs ≡ o → option_and_then (named image) o ≡ Some t
    → (takes_label i ≡ true) × IsLabelled image t
before_taken image i x n None t some all found is = cc is
before_taken image i x n (Some r) t some all found is = (
  label_taken image i x n image.relocs r some all found,
  target_labelled image r t (reloc_ends image.relocs (x + n) r found).0 is,
)

-- What is listed at a place is a body.
pub item_body : (image : Image) (code : Bool) (x : ℕ) (bytes : List ℕ) (it : Listed × ℕ) → IsItem image code x bytes it → AreLow image
    → IsBytes bytes → IsBody image code it.0
unfolding label_before
item_body image code x _ _ (place_here bytes t long here is) low each = record {
  line = record {
    fits = low t (named_inside image x t is);
    head = refl;
    takes = refl;
    place = target_labelled image x t here is;
    insn = λ e. refl;
  };
  body = refl;
}
item_body image code x _ _ (insn_here bytes i n in_code is cut all) low each =
    let found : Option ℕ = find (λ r. nat_eq (r + 8) (x + n)) image.relocs in
    label_body image code i (option_and_then (named image) found) (read_well_formed bytes i n each is) in_code
    (λ t at. before_taken image i x n found t (read_length bytes i n is).0 all refl at)
item_body image code x _ _ (word_here b c rest cut free) low each = record {
  line = record { fits = omega (arith, each 0, each 1); head = refl; takes = refl; place = tt; insn = λ e. refl };
  body = refl;
}
item_body image code x _ _ (byte_here b rest none) low each =
    record { line = record { fits = each 0; head = refl; takes = refl; place = tt; insn = λ e. refl }; body = refl }

labels_are : (image : Image) (code : Bool) (x : ℕ) → x < 2 ^ 32 → AllByRecursion (IsLine image code) (label_lines image x)
labels_are image code x small =
    let label : IsLabelled image x → IsLine image code (listed.Label x) = λ h.
    record { fits = small; head = refl; takes = refl; place = h; insn = λ e. refl } in
    labels_by image x (AllByRecursion (IsLine image code))
    (λ e h. (record { fits = small; head = refl; takes = refl; place = h; insn = λ e. refl }, (label h, tt)))
    (λ o h. (label h, tt)) (λ none. tt)

-- no label is a heading
pub no_heads : (image : Image) (x : ℕ) → list_any is_head (label_lines image x) ≡ false
no_heads image x = labels_by image x (λ ls. list_any is_head ls ≡ false) (λ e h. refl) (λ o h. refl) (λ none. refl)

-- the labels of a place and what is listed there are such lines
pub lines_here : (image : Image) (code : Bool) (x n : ℕ) (bytes : List ℕ) (l : Listed) → IsItem image code x bytes (l, n) → AreLow image
    → IsBytes bytes → x < 2 ^ 32 → AllByRecursion (IsLine image code) (label_lines image x ++ l ∷ [])
lines_here image code x n bytes l is low each small = all_append (IsLine image code) (label_lines image x) (l ∷ [])
    (labels_are image code x small) ((item_body image code x bytes (l, n) is low each).line, tt)

-- Each line of the bytes of a section is one.
pub lines_are : (image : Image) (code : Bool) → AreLow image → {x : ℕ} {bytes : List ℕ} {ls : List Listed}
    → AreLines image code x bytes ls → x + length bytes ≤ 2 ^ 32 → AllByRecursion (IsLine image code) ls
lines_are image code low (no_lines x) short = tt
lines_are image code low (more_lines x b bytes l n rest each is item left later) short =
    all_append (IsLine image code) (label_lines image x ++ l ∷ []) rest
    (lines_here image code x n (b ∷ bytes) l is low each (omega (arith, short))) (lines_are image code low later (omega (arith, short)))

-- none of them is a heading
pub heads_of : (image : Image) (code : Bool) (ls : List Listed) → AllByRecursion (IsLine image code) ls → list_any is_head ls ≡ false
heads_of image code ls h = none_passes is_head ls (each_of (IsLine image code) (λ l. is_head l ≡ false) ls (λ l g. g.head) h)
