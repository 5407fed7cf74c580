-- The text of points is the document of their tables.
use Rattle.point_laws.proofs.Common.{AllByRecursion, define, document_some, item_join-none, item_join-push, list_all-append, parse_document}
use Rattle.point_laws.proofs.Common.{AllPrinted, and_parts, append_assoc, array_table, Expression, IsAscii-cons, IsAscii-nil, skip_from-nil}
use Rattle.point_laws.proofs.Common.{ap, suc, sym, ℕ, ◌<◌, ◌^◌, ◌∙◌, ◌∷◌, ◌≡◌}
use Rattle.point_laws.proofs.Common.{arith, Bool, decimal, integer, IsAscii, Items, length}
use Rattle.point_laws.proofs.Common.{comma_list, member, Members, nat_lt, Nodes, strings}
use Rattle.point_laws.proofs.Common.{array, close, codes, false, List, map, node, pos, refl, run, Some, subst, table, true, value, [], ◌++◌}
use Rattle.point_laws.proofs.Common.{array_line, in_quotes, IsLineText, item_join, key_value, lines_end, members_of, no_members, open_array}
use Rattle.point_laws.proofs.Common.{Document, flat_map, key_text, list_all, ltb-true, nat_tests, no_items, no_nodes, push_item, tables_of}
use Rattle.point_laws.proofs.NoneAgain.{all_so}
use Rattle.point_laws.proofs.TomlTexts.{AllPlain, are_plain, AreLines, is_plain, line_then, no_line}
use Rattle.point_laws.proofs.TomlTexts.{array_line_spelled, decimal_plain, lines_read, number_line_spelled, strings_flat, strings_valid}
use Rattle.toml.specs.{Parse.skip_bom, Tables.along_dots, Tables.along_header, Tables.at_key}

-- ---- one point

-- what is printed of a point: its numbers, and the texts of its lists
pub record Told : Type 0 where
  pub place : ℕ
  pub made : ℕ
  pub regs : List (List ℕ)
  pub stack : List (List ℕ)
  pub written : List (List ℕ)

-- numbers that TOML has, and texts that need no escape
pub record IsToldPlain (x : Told) : Type 0 where
  pub place : x.place < 2 ^ 63
  pub made : x.made < 2 ^ 63
  pub regs : AllPlain x.regs
  pub stack : AllPlain x.stack
  pub written : AllPlain x.written

number_line : List ℕ → ℕ → List ℕ
number_line key n = key ++ (codes " = " ++ (decimal n ++ codes "\n"))

abbrev pub told_text : Told → List ℕ
told_text x =
    codes "[[point]]\nplace = " ++ (decimal x.place ++ (codes "\n"
    ++ (array_line (codes "regs") x.regs
    ++ (array_line (codes "stack") x.stack
    ++ (array_line (codes "written") x.written
    ++ (codes "made = " ++ (decimal x.made ++ codes "\n")))))))

abbrev pub told_members : Told → Members
told_members x = members_of x.place x.made x.regs x.stack x.written

abbrev lines_of : Told → List Expression → List Expression
lines_of x es =
    (([], codes "point"), array_table) ∷
    (([], codes "place"), key_value (integer (pos x.place))) ∷
    (([], codes "regs"), key_value (array (strings x.regs))) ∷
    (([], codes "stack"), key_value (array (strings x.stack))) ∷
    (([], codes "written"), key_value (array (strings x.written))) ∷
    (([], codes "made"), key_value (integer (pos x.made))) ∷ es

glued : (place regs stack written made rest : List ℕ)
    → (codes "[[point]]\nplace = "
    ++ (place ++ (codes "\n" ++ (regs ++ (stack ++ (written ++ (codes "made = " ++ (made ++ codes "\n")))))))) ++ rest
    ≡ codes "[[point]]\n" ++ ((codes "place" ++ (codes " = " ++ (place ++ codes "\n"))) ++ (regs ++ (stack ++ (written
    ++ ((codes "made" ++ (codes " = " ++ (made ++ codes "\n"))) ++ rest)))))
glued place regs stack written made rest = simp append_assoc refl

told_lines : (x : Told) → IsToldPlain x → (es : List Expression) (rest : List ℕ) → AreLines es rest
    → AreLines (lines_of x es) (told_text x ++ rest)
unfolding number_line key_text
told_lines x h es rest more =
    let regs = array_line (codes "regs") x.regs in
    let stack = array_line (codes "stack") x.stack in
    let written = array_line (codes "written") x.written in
    let place = number_line (codes "place") x.place in
    let made = number_line (codes "made") x.made in
    let header : IsLineText false false ([], codes "point") array_table (codes "[[point]]\n") = refl in
    subst (AreLines (lines_of x es)) (sym (glued (decimal x.place) regs stack written (decimal x.made) rest))
    (line_then (codes "[[point]]\n") (place ++ (regs ++ (stack ++ (written ++ (made ++ rest))))) header
    (line_then place (regs ++ (stack ++ (written ++ (made ++ rest)))) (number_line_spelled (codes "place") x.place refl h.place)
    (line_then regs (stack ++ (written ++ (made ++ rest))) (array_line_spelled (codes "regs") x.regs refl h.regs)
    (line_then stack (written ++ (made ++ rest)) (array_line_spelled (codes "stack") x.stack refl h.stack)
    (line_then written (made ++ rest) (array_line_spelled (codes "written") x.written refl h.written)
    (line_then made rest (number_line_spelled (codes "made") x.made refl h.made) more))))))

told_printed : (x : Told) (es : List Expression) → AllPrinted es → AllPrinted (lines_of x es)
told_printed x es more = (
  omega arith,
  (
    (refl, omega arith, refl),
    (
      (refl, rw (strings_flat x.regs) (omega arith), strings_valid x.regs),
      (
        (refl, rw (strings_flat x.stack) (omega arith), strings_valid x.stack),
        ((refl, rw (strings_flat x.written) (omega arith), strings_valid x.written), ((refl, omega arith, refl), more)),
      ),
    ),
  ),
)

-- ---- what the lines define

-- the keys of a point
told_nodes : Told → Nodes
told_nodes x =
    node (codes "made") (value (integer (pos x.made))) (node (codes "place") (value (integer (pos x.place)))
    (node (codes "regs") (value (array (strings x.regs))) (node (codes "stack") (value (array (strings x.stack)))
    (node (codes "written") (value (array (strings x.written))) no_nodes))))

-- the list of points, of which the last has these keys
abbrev list_node : Items → Nodes → Nodes
list_node done last = node (codes "point") (open_array done last) no_nodes

first_run : (x : Told) (es : List Expression)
    → run (no_nodes, []) (lines_of x es) ≡ run (list_node no_items (told_nodes x), codes "point" ∷ []) es
unfolding define along_header along_dots at_key told_nodes
first_run x es = refl

next_run : (done : Items) (last : Nodes) (x : Told) (es : List Expression)
    → run (list_node done last, codes "point" ∷ []) (lines_of x es)
    ≡ run (list_node (push_item done (table (close last))) (told_nodes x), codes "point" ∷ []) es
unfolding define along_header along_dots at_key told_nodes
next_run done last x es = refl

-- ---- many points

abbrev all_lines : List Told → List Expression
all_lines [] = []
all_lines (x ∷ xs) = lines_of x (all_lines xs)

abbrev pub AllToldPlain : List Told → Type 0
AllToldPlain xs = AllByRecursion IsToldPlain xs

all_spelled : (xs : List Told) → AllToldPlain xs → AreLines (all_lines xs) (flat_map told_text xs)
all_spelled [] h = no_line
all_spelled (x ∷ xs) h = told_lines x h.0 (all_lines xs) (flat_map told_text xs) (all_spelled xs h.1)

all_printed : (xs : List Told) → AllPrinted (all_lines xs)
all_printed [] = tt
all_printed (x ∷ xs) = told_printed x (all_lines xs) (all_printed xs)

all_run : (done : Items) (last : Nodes) (xs : List Told)
    → (doc : Document) × (run (list_node done last, codes "point" ∷ []) (all_lines xs) ≡ Some doc)
    × (close doc.0 ≡ member (codes "point") (array (item_join (push_item done (table (close last))) (tables_of told_members xs)))
    no_members)
unfolding told_nodes
all_run done last [] = (
  (list_node done last, codes "point" ∷ []),
  refl,
  ap (λ ds. member (codes "point") (array ds) no_members) (sym (item_join-none (push_item done (table (close last))))),
)
all_run done last (x ∷ xs) =
    let more = all_run (push_item done (table (close last))) (told_nodes x) xs in (
      more.0,
      next_run done last x (all_lines xs) ∙ more.1,
      more.2 ∙ ap (λ ds. member (codes "point") (array ds) no_members)
          (item_join-push (push_item done (table (close last))) (table (close (told_nodes x))) (tables_of told_members xs)),
    )

abbrev pub told_document : List Told → Members
told_document [] = no_members
told_document (x ∷ xs) = member (codes "point") (array (tables_of told_members (x ∷ xs))) no_members

pub told_parsed : (xs : List Told) → AllToldPlain xs → parse_document (flat_map told_text xs) ≡ Some (told_document xs)
unfolding skip_bom told_nodes
told_parsed [] h = document_some [] (no_nodes, []) (lines_end 1 (no_nodes, []) [] (omega arith) (ap length (skip_from-nil true false)))
told_parsed (x ∷ xs) h =
    let text = flat_map told_text (x ∷ xs) in
    let more = all_run no_items (told_nodes x) xs in
    let read = lines_read (all_lines (x ∷ xs)) text text (no_nodes, []) (suc (length text)) (all_spelled (x ∷ xs) h) (all_printed (x ∷ xs))
    refl (omega arith) in
    document_some text more.0 (read ∙ (first_run x (all_lines xs) ∙ more.1)) ∙ ap Some more.2

-- ---- what is printed of points is ASCII

abbrev is_low : ℕ → Bool
is_low b = nat_lt b 128

-- a text that passes the test
tested : (bs : List ℕ) → list_all is_low bs ≡ true → IsAscii bs
tested [] h = IsAscii-nil
tested (b ∷ bs) h =
    let both = and_parts (is_low b) (list_all is_low bs) h in
    IsAscii-cons b bs (ltb-true b 128 both.0) (tested bs both.1)

plain_low : (bs : List ℕ) → are_plain bs ≡ true → list_all is_low bs ≡ true
plain_low bs h = all_so is_plain is_low (λ b plain. grind (arith, nat_tests)) bs h

others_low : (ts : List (List ℕ)) → AllPlain ts → list_all is_low (flat_map (λ y. codes ", " ++ y) (map in_quotes ts)) ≡ true
others_low [] h = refl
others_low (t ∷ ts) h = simp (list_all-append, plain_low t h.0, others_low ts h.1)

listed_low : (ts : List (List ℕ)) → AllPlain ts → list_all is_low (comma_list (map in_quotes ts)) ≡ true
listed_low [] h = refl
listed_low (t ∷ ts) h = simp (list_all-append, plain_low t h.0, others_low ts h.1)

array_low : (key : List ℕ) (ts : List (List ℕ)) → list_all is_low key ≡ true → AllPlain ts → list_all is_low (array_line key ts) ≡ true
array_low key ts k h = simp (list_all-append, k, listed_low ts h)

glued_low : (place regs stack written made : List ℕ) → list_all is_low place ≡ true → list_all is_low regs ≡ true
    → list_all is_low stack ≡ true → list_all is_low written ≡ true → list_all is_low made ≡ true
    → list_all is_low (codes "[[point]]\nplace = "
    ++ (place ++ (codes "\n" ++ (regs ++ (stack ++ (written ++ (codes "made = " ++ (made ++ codes "\n")))))))) ≡ true
glued_low place regs stack written made a b c d e = simp (list_all-append, a, b, c, d, e)

pub told_ascii : (x : Told) → IsToldPlain x → IsAscii (told_text x)
told_ascii x h =
    tested (told_text x) (glued_low (decimal x.place) (array_line (codes "regs") x.regs) (array_line (codes "stack") x.stack)
    (array_line (codes "written") x.written) (decimal x.made)
    (plain_low (decimal x.place) (decimal_plain x.place (omega arith))) (array_low (codes "regs") x.regs refl h.regs)
    (array_low (codes "stack") x.stack refl h.stack) (array_low (codes "written") x.written refl h.written)
    (plain_low (decimal x.made) (decimal_plain x.made (omega arith))))
