-- The lines of a listing are taken one after the other, as those of a source. None has a fault, and labels stand where they did.
use Rattle.link_laws.proofs.Bodies.{AreLow, heads_of, is_body, is_head, is_insn, IsLabelled, item_body, lines_here, no_heads, place_in_line}
use Rattle.link_laws.proofs.Bodies.{IsBody}
use Rattle.link_laws.proofs.Common.{all_append, append-nil, is_labelled, label_lines, line_behind, listed_line, listed_text, ListedFits, Ok}
use Rattle.link_laws.proofs.Common.{AllByRecursion, global_is_defined, if◌then◌else◌, Image, is_instruction, length-append, list_any-append}
use Rattle.link_laws.proofs.Common.{and_names, bytes_of, is_defined, label_read, label_text, map-append, names_with, same_bytes, section_of}
use Rattle.link_laws.proofs.Common.{and_right, behind_ok, code_ends, cond_both, data_ends, global_of, IfSome, is_named, is_there, with_name}
use Rattle.link_laws.proofs.Common.{ap, sym, [], ℕ, ◌+◌, ◌<◌, ◌^◌, ◌∙◌, ◌∷◌, ◌≡◌, ◌≤◌}
use Rattle.link_laws.proofs.Common.{append_assoc, ends_in_data, is_some_name, label_is_new, lines_behind, Place, reads_listed, section_kind}
use Rattle.link_laws.proofs.Common.{arith, behind, ends_in, ends_of, kept_in, label_of, le-leb, length, list_any, Listed, or_left, or_right}
use Rattle.link_laws.proofs.Common.{Bool, Ends, false, here, Line, List, map, most, None, not, refl, Some, start, subst, true, ◌&&◌, ◌++◌}
use Rattle.link_laws.proofs.SectionLaws.{AreLines, bytes_of_lines, more_lines, no_bytes, no_lines, one_item}
use Rattle.link_laws.proofs.Sources.{data_heading, ends_append, none_labelled, place_label, section_append, section_here, section_other}
use Rattle.link_laws.proofs.Sources.{ends_same, IsLowLabel, low_lines, none_of, place_past, source}
use Rattle.link_laws.proofs.{ItemLaws.labels_by, Lists.none_append, PlaceLaws.is_label_of, PlaceLaws.none_here}
use Rattle.ebc_asm.specs.Symbols.{place_of}
use Rattle.asm_text.specs.declared.listing.Listed.TheVariants as listed

-- ---- the label of a line

-- a label of a listing is one of its source
pub defined_in : (front back : List Listed) (y : ℕ) → y < 2 ^ 32
    → is_defined (map listed_text (front ++ listed.Label y ∷ back)) (label_text y) ≡ true
defined_in front back y small =
    let label = label_read (listed_text (listed.Label y)) (listed_line (listed.Label y)) (reads_listed (listed.Label y) small) in
    ap (λ ts. is_defined ts (label_text y)) (map-append listed_text front (listed.Label y ∷ back))
    ∙ (list_any-append (λ t. is_some_name (label_text y) (label_of t)) (map listed_text front) (map listed_text (listed.Label y ∷ back))
    ∙ or_right _ _ (or_left _ _ (ap (is_some_name (label_text y)) label ∙ same_bytes (label_text y))))

-- ---- lines that are taken

-- Each of these lines is taken behind those before it.
abbrev pub AreTaken : List (List ℕ) → List Line → List Line → Type 0
AreTaken texts before [] = Unit {0}
AreTaken texts before (l ∷ ls) = (behind texts before l ≡ Ok l) × AreTaken texts (before ++ l ∷ []) ls

pub taken_append : (texts : List (List ℕ)) (before xs ys : List Line) → AreTaken texts before xs → AreTaken texts (before ++ xs) ys
    → AreTaken texts before (xs ++ ys)
taken_append texts before [] ys h g = subst (λ b. AreTaken texts b ys) (append-nil before) g
taken_append texts before (x ∷ xs) ys h g =
    (h.0, taken_append texts (before ++ x ∷ []) xs ys h.1 (subst (λ b. AreTaken texts b ys) (sym (append_assoc before (x ∷ []) xs)) g))

-- the texts of lines that are taken are read as these lines
pub lines_taken : (texts : List (List ℕ)) (before : List Line) (ls : List Listed) → AllByRecursion ListedFits ls
    → AreTaken texts before (source ls) → lines_behind texts before (map listed_text ls) ≡ Ok (before ++ source ls)
unfolding lines_behind line_behind
lines_taken texts before [] fits taken = ap Ok (sym (append-nil before))
lines_taken texts before (l ∷ ls) fits taken =
    rw (reads_listed l fits.0, taken.0)
    (lines_taken texts (before ++ listed_line l ∷ []) ls fits.1 taken.1 ∙ ap Ok (append_assoc before (listed_line l ∷ []) (source ls)))

-- ---- one line behind others

-- Lines end in code or in data, whose bytes end at a place.
pub record Stand (d : Bool) (s x : ℕ) (before : List Line) : Type 0 where
  pub in_data : ends_in_data false before ≡ d
  pub long : s + length (section_of d false before) ≡ x

pub stand_more : (d : Bool) (s x y : ℕ) (before : List Line) (ls : List Listed) → Stand d s x before → list_any is_head ls ≡ false
    → x + length (bytes_of_lines ls) ≡ y → Stand d s y (before ++ source ls)
stand_more d s x y before ls st heads count =
    let ends : ends_in_data false before ≡ d = st.in_data in
    let bytes = section_append d false before (source ls)
    ∙ ap (λ bs. section_of d false before ++ bs) (ap (λ c. section_of d c (source ls)) ends ∙ section_here d ls heads) in
    record {
      in_data = ends_append false before (source ls) ∙ (ap (λ c. ends_in_data c (source ls)) ends ∙ ends_same d ls heads);
      long = omega (arith, ap length bytes, length-append (section_of d false before) (bytes_of_lines ls), count);
    }

-- a line is taken that has room, states a known name at most, has a new label at most, and is no instruction in data
pub line_taken : (texts : List (List ℕ)) (d : Bool) (s x n : ℕ) (before : List Line) (l : Line) → Stand d s x before → x + n ≤ s + most
    → length (bytes_of l.statement) ≡ n → global_is_defined texts (global_of l.statement) ≡ true → label_is_new before l.label ≡ true
    → (d && is_instruction l.statement) ≡ false → behind texts before l ≡ Ok l
line_taken texts d s x n before l st short count known new place =
    let bytes = ap length (ap (λ c. section_of c false before) st.in_data) in
    behind_ok texts before l known new (le-leb _ _ (omega (arith, bytes, count, short, st.long)))
    (ap not (ap (λ c. c && is_instruction l.statement) st.in_data ∙ place))

-- what is no label
plain : (l : Listed) → is_body l ≡ true → (global_of (listed_line l).statement ≡ None) × ((listed_line l).label ≡ None)
plain (listed.Place t) h = (refl, refl)
plain (listed.Word n) h = (refl, refl)
plain (listed.Byte n) h = (refl, refl)
plain (listed.Instruction i t) h = (refl, refl)
plain c h = cc h

no_instruction : (l : Listed) → is_insn l ≡ false → is_instruction (listed_line l).statement ≡ false
no_instruction (listed.Instruction i t) h = cc h
no_instruction c h = refl

in_code : (code : Bool) (l : Listed) → (code ≡ false → is_insn l ≡ false) → (not code && is_instruction (listed_line l).statement) ≡ false
in_code true l insn = refl
in_code false l insn = no_instruction l (insn refl)

-- ---- the lines of a section

-- No label of a place from x on stands before.
abbrev pub IsFresh : ℕ → List Line → Type 0
IsFresh x before = (y : ℕ) → x ≤ y → y < 2 ^ 32 → list_any (is_labelled (label_text y)) before ≡ false

labels_taken : (image : Image) (texts : List (List ℕ)) (d : Bool) (s x : ℕ) (before : List Line) → Stand d s x before → IsFresh x before
    → x ≤ s + most → x < 2 ^ 32 → is_defined texts (label_text image.entry) ≡ true
    → AreTaken texts before (source (label_lines image x))
labels_taken image texts d s x before st fresh short small known =
    let new : list_any (is_labelled (label_text x)) before ≡ false = fresh x (omega arith) small in
    let room : x + 0 ≤ s + most = omega (arith, short) in
    let more : List Line = before ++ source (listed.Global x ∷ []) in
    let label : (b : List Line) → Stand d s x b → list_any (is_labelled (label_text x)) b ≡ false
    → behind texts b (listed_line (listed.Label x)) ≡ Ok (listed_line (listed.Label x)) = λ b at none.
    line_taken texts d s x 0 b (listed_line (listed.Label x)) at room refl refl (ap not none) (and_right d false refl) in
    labels_by image x (λ ls. AreTaken texts before (source ls))
    (λ e h. (
      line_taken texts d s x 0 before (listed_line (listed.Global x)) st room refl
          (subst (λ z. is_defined texts (label_text z) ≡ true) (sym e) known) refl (and_right d false refl),
      (
        label more (stand_more d s x x before (listed.Global x ∷ []) st refl (omega arith))
            (none_append (is_labelled (label_text x)) before (source (listed.Global x ∷ [])) new refl),
        tt,
      ),
    ))
    (λ o h. (label before st new, tt)) (λ none. tt)

-- The lines of a section are taken behind lines that end in it.
pub section_taken : (image : Image) (texts : List (List ℕ)) (code : Bool) (s : ℕ) → AreLow image
    → is_defined texts (label_text image.entry) ≡ true → {x : ℕ} {bytes : List ℕ} {ls : List Listed} → AreLines image code x bytes ls
    → (before : List Line) → Stand (not code) s x before → IsFresh x before → x + length bytes ≤ s + most → x + length bytes ≤ 2 ^ 32
    → AreTaken texts before (source ls)
section_taken image texts code s low known (no_lines x) before st fresh short small = tt
section_taken image texts code s low known (more_lines x b bytes l n rest each is item left later) before st fresh short small =
    let body : IsBody image code l = item_body image code x (b ∷ bytes) (l, n) is low each in
    let p = plain l body.body in
    let labels : List Listed = label_lines image x in
    let here : List Listed = labels ++ l ∷ [] in
    let all = lines_here image code x n (b ∷ bytes) l is low each (omega (arith, small)) in
    let st_labels = stand_more (not code) s x x before labels st (no_heads image x) (omega (arith, ap length (no_bytes image x))) in
    let second : AreTaken texts (before ++ source labels) (source (l ∷ [])) = (
      line_taken texts (not code) s x n (before ++ source labels) (listed_line l) st_labels (omega (arith, short)) item.long
          (ap (global_is_defined texts) p.0) (ap (label_is_new (before ++ source labels)) p.1) (in_code code l body.line.insn),
      tt,
    ) in
    let st_next = stand_more (not code) s x (x + n) before here st (heads_of image code here all)
    (omega (arith, ap length (one_item image x l) ∙ item.long)) in
    let fresh_next : IsFresh (x + n) (before ++ source here) = λ y from below.
    none_append (is_labelled (label_text y)) before (source here) (fresh y (omega (arith, from)) below)
    (none_labelled y here below (low_lines image code here all)
    (none_here image code x y n (b ∷ bytes) l is (omega (arith, from, item.some)))) in
    let front : AreTaken texts before (source here) =
    subst (AreTaken texts before) (sym (map-append listed_line labels (l ∷ []))) (taken_append texts before (source labels)
    (source (l ∷ [])) (labels_taken image texts (not code) s x before st fresh (omega (arith, short)) (omega (arith, small)) known) second)
    in
    subst (AreTaken texts before) (sym (map-append listed_line here rest)) (taken_append texts before (source here) (source rest) front
    (section_taken image texts code s low known later (before ++ source here) st_next fresh_next (omega (arith, short, left))
    (omega (arith, small, left))))

-- ---- the names of the lines of a listing are labels of the image, and each label is among them

-- A name is the label of a place that has one.
pub record IsLabel (image : Image) (name : List ℕ) : Type 0 where
  pub place : ℕ
  pub is : name ≡ label_text place
  pub labelled : IsLabelled image place

abbrev AreLabels : Image → List (List ℕ) → Type 0
AreLabels image ns = AllByRecursion (IsLabel image) ns

with_label : (image : Image) (p : ℕ) (ns : List (List ℕ)) → AreLabels image ns → IsLabelled image p
    → AreLabels image (with_name (label_text p) ns)
with_label image p ns h here =
    cond_both (is_named (label_text p) ns) ns (ns ++ label_text p ∷ []) (AreLabels image) (λ e. h)
    (λ e. all_append (IsLabel image) ns (label_text p ∷ []) h (record { place = p; is = refl; labelled = here }, tt))

line_names : (image : Image) (l : Listed) (ns : List (List ℕ)) → AreLabels image ns → IfSome (place_in_line l) (IsLabelled image)
    → AreLabels image (and_names (listed_line l) ns)
line_names image (listed.Label p) ns h here = with_label image p ns h here
line_names image (listed.Global p) ns h here = with_label image p ns h here
line_names image (listed.Place t) ns h here = with_label image t ns h here
line_names image (listed.Instruction i (Some t)) ns h here = with_label image t ns h here
line_names image c ns h here = h

-- the names of lines are labels
pub names_are : (image : Image) (ns : List (List ℕ)) (ls : List Listed) → AreLabels image ns
    → AllByRecursion (λ l. IfSome (place_in_line l) (IsLabelled image)) ls → AreLabels image (names_with ns (source ls))
unfolding names_with
names_are image ns [] h each = h
names_are image ns (l ∷ ls) h each =
    names_are image (and_names (listed_line l) ns) ls (line_names image l ns h each.0) each.1

-- ---- each label is a name

names_append : (ns : List (List ℕ)) (xs ys : List Line) → names_with ns (xs ++ ys) ≡ names_with (names_with ns xs) ys
unfolding names_with
names_append ns [] ys = refl
names_append ns (x ∷ xs) ys = names_append (and_names x ns) xs ys

-- a label of lines is one of their names
pub label_named : (y : ℕ) (front back : List Line)
    → is_named (label_text y) (names_with [] (front ++ listed_line (listed.Label y) ∷ back)) ≡ true
unfolding names_with
label_named y front back =
    let ns = names_with [] front in
    ap (is_named (label_text y)) (names_append [] front (listed_line (listed.Label y) ∷ back))
    ∙ kept_in (label_text y) (with_name (label_text y) ns) back (is_there (label_text y) ns)

-- The label of a place is a name of lines, and stands in code or in data that begin at a place, as far behind it as the place is.
pub record IsPlaced (ls : List Line) (d : Bool) (s y : ℕ) : Type 0 where
  pub known : is_named (label_text y) (names_with [] ls) ≡ true
  pub kind : (place_of start (label_text y) ls).kind ≡ section_kind d
  pub offset : s + (place_of start (label_text y) ls).offset ≡ y

end_by : (d : Bool) (ls : List Line) → (if d then (ends_of start ls).data_end else (ends_of start ls).code_end) ≡ length
    (section_of d false ls)
end_by true ls = data_ends start ls ∙ omega arith
end_by false ls = code_ends start ls ∙ omega arith

-- where lines stand that end in a section
pub stand_here : (d : Bool) (s x : ℕ) (ls : List Line) → Stand d s x ls → s + here (ends_of start ls) ≡ x
stand_here d s x ls st =
    let e : Ends = ends_of start ls in
    ap (λ n. s + n) (ap (λ b. if b then e.data_end else e.code_end) (ends_in start ls ∙ st.in_data) ∙ end_by d ls) ∙ st.long

pub placed_at : (d : Bool) (s y : ℕ) (front back : List Listed) → y < 2 ^ 32 → AllByRecursion IsLowLabel front
    → list_any (is_label_of y) front ≡ false → Stand d s y (source front) → IsPlaced (source (front ++ listed.Label y ∷ back)) d s y
placed_at d s y front back small low new st =
    let whole = map-append listed_line front (listed.Label y ∷ back) in
    let e : Ends = ends_of start (source front) in
    let make : Bool → ℕ → Place = λ b n. record { kind = section_kind b; offset = n } in
    let place : place_of start (label_text y) (source (front ++ listed.Label y ∷ back)) ≡ make e.in_data (here e) =
    rw (
      whole,
      place_past start (label_text y) (source front) (listed_line (listed.Label y) ∷ source back)
          (none_labelled y front small low new),
    ) (place_label e y (source back)) in
    record {
      known = ap (λ ls. is_named (label_text y) (names_with [] ls)) whole ∙ label_named y (source front) (source back);
      kind = ap (λ (p : Place). p.kind) place ∙ ap section_kind (ends_in start (source front) ∙ st.in_data);
      offset = ap (λ (p : Place). s + p.offset) place ∙ stand_here d s y (source front) st;
    }

-- ---- where sections begin

pub code_stands : (s : ℕ) → Stand false s s (source (listed.Code ∷ []))
unfolding ends_in_data section_of
code_stands s = record { in_data = refl; long = omega arith }

pub data_stands : (s : ℕ) (ls : List Listed) → list_any is_head ls ≡ false
    → Stand true s s (source (listed.Code ∷ ls) ++ source (listed.Data ∷ []))
unfolding section_of ends_in_data
data_stands s ls heads =
    let before : List Line = source (listed.Code ∷ ls) in
    let bytes : section_of true false (before ++ source (listed.Data ∷ [])) ≡ [] =
    rw (section_append true false before (source (listed.Data ∷ [])), section_other false ls heads)
    (data_heading true (ends_in_data false before) [] ∙ none_of true true) in
    record {
      in_data = ends_append false before (source (listed.Data ∷ []));
      long = omega (arith, ap length bytes);
    }
