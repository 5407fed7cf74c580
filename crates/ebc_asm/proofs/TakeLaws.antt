-- What an assembler holds once a line is taken, and the faults of a line that isn't.
use Rattle.std.proofs.Common.{◌≡◌, ℕ, ◌+◌, ◌<◌, ◌≤◌, List, [], ◌∷◌, ◌++◌, length, map, Option, Some, None, Result, Ok, Err, Bool, true}
use Rattle.std.proofs.Common.{false, cond, refl, sym, ap, subst, ◌∙◌, arith}
use Rattle.std.proofs.lemmas.Bool.Decides.{nat_tests}
use Rattle.std.specs.Prelude.{not, ◌&&◌, nat_le}
use Rattle.ebc_object.specs.Objects.{most}
use Rattle.ebc_object.specs.declared.object.Fixup.{Fixup}
use Rattle.asm_text.specs.Lines.{Line, line_in}
use Rattle.asm_text.specs.declared.fault.AsmFault.{AsmFault}
use Rattle.asm_text.specs.declared.fault.AsmFault.TheVariants as faults
use Rattle.ebc_asm.specs.declared.assembler.Assembler.{Assembler}
use Rattle.ebc_asm.specs.declared.end.LineEnd.{LineEnd}
use Rattle.ebc_asm.specs.declared.end.LineEnd.TheVariants as ends
use Rattle.ebc_asm.specs.declared.names.Names.{Names}
use Rattle.ebc_asm.specs.declared.names.Standing.{Standing}
use Rattle.ebc_asm.specs.Held.{Added, Adds, AreLabels, Holds, Labels, Takes, TakesText, and_global_place, and_used_place, bytes_here}
use Rattle.ebc_asm.specs.Held.{global_is_known, standing_in}
use Rattle.ebc_asm.specs.Pieces.{bytes_of, data_after, ends_in_data, if_there, section_of, use_of}
use Rattle.ebc_asm.specs.Sources.{behind, global_is_defined, has_room, is_instruction, is_placed, label_is_new, line_behind}
use Rattle.ebc_asm.specs.Symbols.{Ends, and_name, and_names, fixups_in, fixups_of, global_of, here, names_with, section_kind, start}
use Rattle.ebc_asm.specs.Symbols.{used_name}
use Rattle.ebc_asm.proofs.LineLaws.{code_ends, data_ends, ends_in, ends_more, ends_of, names_more, section_more}
use Rattle.ebc_asm.proofs.StateLaws.{fixups_with}
use Rattle.ebc_asm.proofs.StandingLaws.{labelled_in}
use Rattle.ebc_asm.proofs.LineSteps.{global_taken, known_in, label_refused, label_taken, use_taken}

-- ---- a line behind others

pub behind_ok : (texts : List (List ℕ)) (ls : List Line) (l : Line) → global_is_defined texts (global_of l.statement) ≡ true
    → label_is_new ls l.label ≡ true → has_room ls l ≡ true → is_placed ls l ≡ true → behind texts ls l ≡ Ok l
unfolding behind
behind_ok texts ls l g n r p = rw (g, n, r, p) refl

pub behind_label : (texts : List (List ℕ)) (ls : List Line) (l : Line) → global_is_defined texts (global_of l.statement) ≡ false
    → behind texts ls l ≡ Err faults.Label
unfolding behind
behind_label texts ls l g = rw g refl

pub behind_twice : (texts : List (List ℕ)) (ls : List Line) (l : Line) → global_is_defined texts (global_of l.statement) ≡ true
    → label_is_new ls l.label ≡ false → behind texts ls l ≡ Err faults.Twice
unfolding behind
behind_twice texts ls l g n = rw (g, n) refl

pub behind_far : (texts : List (List ℕ)) (ls : List Line) (l : Line) → global_is_defined texts (global_of l.statement) ≡ true
    → label_is_new ls l.label ≡ true → has_room ls l ≡ false → behind texts ls l ≡ Err faults.Far
unfolding behind
behind_far texts ls l g n r = rw (g, n, r) refl

pub behind_section : (texts : List (List ℕ)) (ls : List Line) (l : Line) → global_is_defined texts (global_of l.statement) ≡ true
    → label_is_new ls l.label ≡ true → has_room ls l ≡ true → is_placed ls l ≡ false → behind texts ls l ≡ Err faults.Section
unfolding behind
behind_section texts ls l g n r p = rw (g, n, r, p) refl

-- what labels say of a name that is made global
pub known_defined : (labels texts : List (List ℕ)) (o : Option (List ℕ)) → AreLabels labels texts
    → global_is_known labels o ≡ global_is_defined texts o
known_defined labels texts None h = refl
known_defined labels texts (Some name) h = h name

-- ---- where the next line stands

here_for : (d : Bool) (cb db : List ℕ) (e : Ends) → e.in_data ≡ d → e.code_end ≡ length cb → e.data_end ≡ length db
    → length (cond d db cb) ≡ here e
here_for true cb db e h c k = rw (h, k) refl
here_for false cb db e h c k = rw (h, c) refl

pub here_is : (ls : List Line) (a : Assembler) → Holds ls a → length (bytes_here a) ≡ here (ends_of start ls)
here_is ls a h =
    let inside : (ends_of start ls).in_data ≡ a.in_data = ends_in start ls ∙ sym h.in_data in
    let code : (ends_of start ls).code_end ≡ length a.code.bytes.items = code_ends start ls
    ∙ (let n = ap length h.code in omega (arith, n)) in
    let contents : (ends_of start ls).data_end ≡ length a.contents.bytes.items = data_ends start ls
    ∙ (let n = ap length h.contents in omega (arith, n)) in
    here_for a.in_data a.code.bytes.items a.contents.bytes.items (ends_of start ls) inside code contents

bytes_for : (d : Bool) (cb db : List ℕ) (ls : List Line) → cb ≡ section_of false false ls → db ≡ section_of true false ls
    → cond d db cb ≡ section_of d false ls
bytes_for true cb db ls c k = k
bytes_for false cb db ls c k = c

pub bytes_are : (ls : List Line) (a : Assembler) → Holds ls a → bytes_here a ≡ section_of (ends_in_data false ls) false ls
bytes_are ls a h = bytes_for a.in_data a.code.bytes.items a.contents.bytes.items ls h.code h.contents
    ∙ ap (λ d. section_of d false ls) h.in_data

pub room_is : (ls : List Line) (l : Line) (a : Assembler) → Holds ls a
    → nat_le (length (bytes_here a) + length (bytes_of l.statement)) most ≡ has_room ls l
room_is ls l a h = ap (λ bs. nat_le (length bs + length (bytes_of l.statement)) most) (bytes_are ls a h)

has_some : (m n : ℕ) → m ≤ n → nat_le m n ≡ true
has_some m n h = grind (arith, nat_tests, h)

has_none : (m n : ℕ) → n < m → nat_le m n ≡ false
has_none m n h = grind (arith, nat_tests, h)

pub has_room_is : (ls : List Line) (l : Line) (a : Assembler) → Holds ls a → length (bytes_here a) + length (bytes_of l.statement) ≤ most
    → has_room ls l ≡ true
has_room_is ls l a h r = sym (room_is ls l a h) ∙ has_some (length (bytes_here a) + length (bytes_of l.statement)) most r

pub no_room_is : (ls : List Line) (l : Line) (a : Assembler) → Holds ls a → most < length (bytes_here a) + length (bytes_of l.statement)
    → has_room ls l ≡ false
no_room_is ls l a h r = sym (room_is ls l a h) ∙ has_none (length (bytes_here a) + length (bytes_of l.statement)) most r

pub placed_is : (ls : List Line) (l : Line) (a : Assembler) (b : Bool) → Holds ls a → (a.in_data && is_instruction l.statement) ≡ b
    → is_placed ls l ≡ not b
placed_is ls l a b h e = ap (λ d. not (d && is_instruction l.statement)) (sym h.in_data) ∙ ap not e

-- ---- the label

labels_same : (r : Result (Unit {0}) LineEnd) (o : Option (List ℕ)) (k1 k2 n1 n2 : ℕ) (t1 t2 : List (List ℕ)) (p1 p2 after : List Standing)
    → k1 ≡ k2 → n1 ≡ n2 → t1 ≡ t2 → p1 ≡ p2 → Labels r o k1 n1 t1 p1 after → Labels r o k2 n2 t2 p2 after
labels_same r o k1 k2 n1 n2 t1 t2 p1 p2 after k n t p h =
    subst (λ x. Labels r o x n2 t2 p2 after) k (subst (λ x. Labels r o k1 x t2 p2 after) n
    (subst (λ x. Labels r o k1 n1 x p2 after) t (subst (λ x. Labels r o k1 n1 t1 x after) p h)))

-- What is told of the label of a line.
abbrev pub LabelTold : Result (Unit {0}) LineEnd → Line → Assembler → List Standing → Type 0
LabelTold r l a after = Labels r l.label (section_kind a.in_data) (length (bytes_here a)) a.names.table a.names.places.items after

-- it is told so by the section's number and its end
pub label_told : (r : Result (Unit {0}) LineEnd) (l : Line) (a : Assembler) (k n : ℕ) (after : List Standing) → k ≡ section_kind a.in_data
    → n ≡ length (bytes_here a)
    → Labels r l.label k n a.names.table a.names.places.items after → LabelTold r l a after
label_told r l a k n after d e t =
    labels_same r l.label k (section_kind a.in_data) n
    (length (bytes_here a)) a.names.table a.names.table a.names.places.items a.names.places.items after d e refl refl t

-- the same, said of the lines
label_lines : (r : Result (Unit {0}) LineEnd) (ls : List Line) (l : Line) (a : Assembler) (after : List Standing) → Holds ls a
    → LabelTold r l a after
    → Labels r l.label (section_kind (ends_of start ls).in_data) (here (ends_of start ls)) (names_with [] ls)
    (map (standing_in ls) (names_with [] ls)) after
label_lines r ls l a after h t =
    let inside : a.in_data ≡ (ends_of start ls).in_data = h.in_data ∙ sym (ends_in start ls) in
    labels_same r l.label (section_kind a.in_data) (section_kind (ends_of start ls).in_data) (length (bytes_here a))
    (here (ends_of start ls)) a.names.table (names_with [] ls) a.names.places.items (map (standing_in ls) (names_with [] ls)) after
    (ap section_kind inside) (here_is ls a h) h.names h.places t

label_new : (ls : List Line) (l : Line) (a : Assembler) (after : List Standing) → Holds ls a → LabelTold (Ok tt) l a after
    → label_is_new ls l.label ≡ true
label_new ls l a after h t = (label_taken ls l l.label after refl (label_lines (Ok tt) ls l a after h t)).0

-- ---- a line that is taken

section_step : (w d : Bool) (old new : List ℕ) (ls : List Line) (l : Line) → old ≡ section_of w false ls → d ≡ ends_in_data false ls
    → new ≡ old ++ if_there w d (bytes_of l.statement) → new ≡ section_of w false (ls ++ l ∷ [])
section_step w d old new ls l o i e =
    e ∙ ap (λ bs. bs ++ if_there w d (bytes_of l.statement)) o ∙ ap (λ x. section_of w false ls ++ if_there w x (bytes_of l.statement)) i
    ∙ sym (section_more w false ls l)

fixups_step : (w d : Bool) (n : ℕ) (t : List (List ℕ)) (old new : List Fixup) (ls : List Line) (l : Line)
    → old ≡ fixups_in w start (names_with [] ls) ls → d ≡ (ends_of start ls).in_data → n ≡ here (ends_of start ls)
    → t ≡ and_names l (names_with [] ls)
    → new ≡ old ++ if_there w d (fixups_of d n t (use_of l.statement))
    → new ≡ fixups_in w start (names_with [] (ls ++ l ∷ [])) (ls ++ l ∷ [])
fixups_step w d n t old new ls l o i k m e =
    e ∙ ap (λ fs. fs ++ if_there w d (fixups_of d n t (use_of l.statement))) o
    ∙ ap (λ x. fixups_in w start (names_with [] ls) ls ++ if_there w x (fixups_of x n t (use_of l.statement))) i
    ∙ ap (λ x. fixups_in w start (names_with [] ls) ls ++ if_there w (ends_of start ls).in_data
    (fixups_of (ends_of start ls).in_data x t (use_of l.statement))) k
    ∙ ap (λ x. fixups_in w start (names_with [] ls) ls ++ if_there w (ends_of start ls).in_data
    (fixups_of (ends_of start ls).in_data (here (ends_of start ls)) x (use_of l.statement))) m
    ∙ sym (fixups_with w start (names_with [] ls) ls l (known_in [] ls))
    ∙ ap (λ ns. fixups_in w start ns (ls ++ l ∷ [])) (sym (names_more [] ls l))

-- an assembler that took a line holds it behind the others
pub holds_more : (ls : List Line) (l : Line) (a b : Assembler) (n1 n2 : Names) (d : Bool) → Holds ls a
    → LabelTold (Ok tt) l a n1.places.items
    → n1.table ≡ and_name l.label a.names.table
    → n2.table ≡ and_name (global_of l.statement) n1.table
    → n2.places.items ≡ and_global_place (global_of l.statement) n1.table n1.places.items
    → Added l.statement (record a { names = n2 }) b
    → d ≡ data_after b.in_data l.statement
    → Holds (ls ++ l ∷ []) (record b { in_data = d })
holds_more ls l a b n1 n2 d h told t1 t2 p2 added e =
    let first : n1.table ≡ and_name l.label (names_with [] ls) = t1 ∙ ap (λ ns. and_name l.label ns) h.names in
    let second : n2.table ≡ and_name (global_of l.statement) (and_name l.label (names_with [] ls)) = t2
    ∙ ap (λ ns. and_name (global_of l.statement) ns) first in
    let third : b.names.table ≡ and_names l (names_with [] ls) = added.names
    ∙ ap (λ ns. and_name (used_name (use_of l.statement)) ns) second in
    let labelled : n1.places.items ≡ map (labelled_in ls l) (and_name l.label (names_with [] ls)) =
    (label_taken ls l l.label n1.places.items refl (label_lines (Ok tt) ls l a n1.places.items h told)).1 in
    let global : n2.places.items ≡ map (standing_in (ls ++ l ∷ []))
    (and_name (global_of l.statement) (and_name l.label (names_with [] ls))) =
    p2 ∙ ap (λ ns. and_global_place (global_of l.statement) ns n1.places.items) first
    ∙ ap (λ ps. and_global_place (global_of l.statement) (and_name l.label (names_with [] ls)) ps) labelled
    ∙ global_taken ls l (global_of l.statement) refl in
    let used : b.names.places.items ≡ map (standing_in (ls ++ l ∷ [])) (and_names l (names_with [] ls)) =
    added.places ∙ ap (λ ns. and_used_place (used_name (use_of l.statement)) ns n2.places.items) second
    ∙ ap (λ ps. and_used_place (used_name (use_of l.statement))
    (and_name (global_of l.statement) (and_name l.label (names_with [] ls))) ps) global
    ∙ use_taken ls l (used_name (use_of l.statement)) in
    let inside : a.in_data ≡ (ends_of start ls).in_data = h.in_data ∙ sym (ends_in start ls) in
    record {
      in_data = e ∙ ap (λ x. data_after x l.statement) (added.in_data ∙ h.in_data) ∙ sym (ends_more false ls l);
      code = section_step false a.in_data a.code.bytes.items b.code.bytes.items ls l h.code h.in_data added.code;
      contents = section_step true a.in_data a.contents.bytes.items b.contents.bytes.items ls l h.contents h.in_data added.contents;
      code_fixups = fixups_step false a.in_data
          (length (bytes_here a)) b.names.table a.code.fixups.items b.code.fixups.items ls l h.code_fixups inside
          (here_is ls a h) third added.code_fixups;
      data_fixups = fixups_step true a.in_data
          (length (bytes_here a)) b.names.table a.contents.fixups.items b.contents.fixups.items ls l h.data_fixups inside
          (here_is ls a h) third added.data_fixups;
      names = third ∙ sym (names_more [] ls l);
      places = used ∙ ap (λ ns. map (standing_in (ls ++ l ∷ [])) ns) (sym (names_more [] ls l));
    }

defined_too : (labels texts : List (List ℕ)) (o : Option (List ℕ)) (b : Bool) → AreLabels labels texts → global_is_known labels o ≡ b
    → global_is_defined texts o ≡ b
defined_too labels texts o b h e = sym (known_defined labels texts o h) ∙ e

placed_too : (ls : List Line) (l : Line) (a b : Assembler) (n2 : Names) (x : Bool) → Holds ls a
    → Added l.statement (record a { names = n2 }) b → (b.in_data && is_instruction l.statement) ≡ x → is_placed ls l ≡ not x
placed_too ls l a b n2 x h added e = placed_is ls l a x h (ap (λ y. y && is_instruction l.statement) (sym added.in_data) ∙ e)

-- and the line has no fault
pub taken : (labels texts : List (List ℕ)) (ls : List Line) (l : Line) (a b : Assembler) (n1 n2 : Names) → AreLabels labels texts
    → Holds ls a
    → global_is_known labels (global_of l.statement) ≡ true
    → LabelTold (Ok tt) l a n1.places.items
    → Added l.statement (record a { names = n2 }) b
    → (b.in_data && is_instruction l.statement) ≡ false
    → behind texts ls l ≡ Ok l
taken labels texts ls l a b n1 n2 k h g told added e =
    behind_ok texts ls l (defined_too labels texts (global_of l.statement) true k g) (label_new ls l a n1.places.items h told)
    (has_room_is ls l a h added.room) (placed_too ls l a b n2 false h added e)

-- ---- a line that isn't

pub refused_global : (labels texts : List (List ℕ)) (ls : List Line) (l : Line) → AreLabels labels texts
    → global_is_known labels (global_of l.statement) ≡ false → behind texts ls l ≡ Err faults.Label
refused_global labels texts ls l k g = behind_label texts ls l (defined_too labels texts (global_of l.statement) false k g)

pub refused_label : (labels texts : List (List ℕ)) (ls : List Line) (l : Line) (a b : Assembler) (after : List Standing) (e : LineEnd)
    → AreLabels labels texts → Holds ls a
    → global_is_known labels (global_of l.statement) ≡ true
    → LabelTold (Err e) l a after
    → Takes (Err e) texts ls l b
refused_label labels texts ls l a b after (ends.Fault f) k h g told =
    let t = label_refused ls l.label f (section_kind (ends_of start ls).in_data) (here (ends_of start ls)) after
    (label_lines (Err (ends.Fault f)) ls l a after h told) in
    behind_twice texts ls l (defined_too labels texts (global_of l.statement) true k g) t.1 ∙ ap Err (sym t.0)
refused_label labels texts ls l a b after ends.NoMemory k h g told = tt

pub refused_room : (labels texts : List (List ℕ)) (ls : List Line) (l : Line) (a b c : Assembler) (n1 n2 : Names) (e : LineEnd)
    → AreLabels labels texts → Holds ls a
    → global_is_known labels (global_of l.statement) ≡ true
    → LabelTold (Ok tt) l a n1.places.items
    → Adds (Err e) l.statement (record a { names = n2 }) b
    → Takes (Err e) texts ls l c
refused_room labels texts ls l a b c n1 n2 (ends.Fault f) k h g told t =
    behind_far texts ls l (defined_too labels texts (global_of l.statement) true k g) (label_new ls l a n1.places.items h told)
    (no_room_is ls l a h t.1) ∙ ap Err (sym t.0)
refused_room labels texts ls l a b c n1 n2 ends.NoMemory k h g told t = tt

pub refused_section : (labels texts : List (List ℕ)) (ls : List Line) (l : Line) (a b : Assembler) (n1 n2 : Names) → AreLabels labels texts
    → Holds ls a
    → global_is_known labels (global_of l.statement) ≡ true
    → LabelTold (Ok tt) l a n1.places.items
    → Added l.statement (record a { names = n2 }) b
    → (b.in_data && is_instruction l.statement) ≡ true
    → behind texts ls l ≡ Err faults.Section
refused_section labels texts ls l a b n1 n2 k h g told added e =
    behind_section texts ls l (defined_too labels texts (global_of l.statement) true k g) (label_new ls l a n1.places.items h told)
    (has_room_is ls l a h added.room) (placed_too ls l a b n2 true h added e)

-- ---- the text of a line

pub text_taken : (r : Result (Unit {0}) LineEnd) (texts : List (List ℕ)) (ls : List Line) (l : Line) (text : List ℕ) (a : Assembler)
    → Ok l ≡ line_in text → Takes r texts ls l a → TakesText r texts ls text a
unfolding line_behind
text_taken (Ok u) texts ls l text a e t = (l, (rw (← e) t.0, t.1))
text_taken (Err (ends.Fault f)) texts ls l text a e t = rw (← e) t
text_taken (Err ends.NoMemory) texts ls l text a e t = tt

pub text_refused : (texts : List (List ℕ)) (ls : List Line) (text : List ℕ) (f : AsmFault) → Err f ≡ line_in text
    → line_behind texts ls text ≡ Err f
unfolding line_behind
text_refused texts ls text f e = rw (← e) refl
