-- What a source has with one line more.
use Rattle.std.proofs.Common.{◌≡◌, ℕ, ◌+◌, List, [], ◌∷◌, ◌++◌, length, Bool, true, false, cond, refl, sym, ap, ◌∙◌, arith}
use Rattle.std.proofs.lemmas.List.{append-nil, append_assoc}
use Rattle.std.proofs.Math.ListN.{length-append}
use Rattle.std.specs.Prelude.{◌||◌, if◌then◌else◌}
use Rattle.std.specs.List.{list_any}
use Rattle.asm_text.specs.Lines.{Line}
use Rattle.ebc_asm.specs.Pieces.{bytes_of, data_after, ends_in_data, if_there, section_of, use_of}
use Rattle.ebc_asm.specs.Symbols.{Ends, Place, and_names, ends_after, fixups_in, fixups_of, here, is_labelled, names_with, place_of}
use Rattle.ebc_asm.specs.Symbols.{section_kind, undefined}

-- ---- sections

pub ends_more : (d : Bool) (ls : List Line) (l : Line) → ends_in_data d (ls ++ l ∷ []) ≡ data_after (ends_in_data d ls) l.statement
unfolding ends_in_data
ends_more d [] l = refl
ends_more d (x ∷ ls) l = ends_more (data_after d x.statement) ls l

pub section_more : (w d : Bool) (ls : List Line) (l : Line) → section_of w d (ls ++ l ∷ []) ≡ section_of w d ls
    ++ if_there w (ends_in_data d ls) (bytes_of l.statement)
unfolding section_of ends_in_data
section_more w d [] l = append-nil (if_there w d (bytes_of l.statement))
section_more w d (x ∷ ls) l = ap (λ bs. if_there w d (bytes_of x.statement) ++ bs) (section_more w (data_after d x.statement) ls l)
    ∙ sym (append_assoc (if_there w d (bytes_of x.statement)) (section_of w (data_after d x.statement) ls)
    (if_there w (ends_in_data (data_after d x.statement) ls) (bytes_of l.statement)))

-- ---- names

pub names_more : (ns : List (List ℕ)) (ls : List Line) (l : Line) → names_with ns (ls ++ l ∷ []) ≡ and_names l (names_with ns ls)
unfolding names_with
names_more ns [] l = refl
names_more ns (x ∷ ls) l = names_more (and_names x ns) ls l

-- ---- where the sections end

-- where they end with these lines
unfoldable pub ends_of : Ends → List Line → Ends
ends_of e [] = e
ends_of e (l ∷ ls) = ends_of (ends_after e l) ls

pub ends_of_more : (e : Ends) (ls : List Line) (l : Line) → ends_of e (ls ++ l ∷ []) ≡ ends_after (ends_of e ls) l
unfolding ends_of
ends_of_more e [] l = refl
ends_of_more e (x ∷ ls) l = ends_of_more (ends_after e x) ls l

pub ends_in : (e : Ends) (ls : List Line) → (ends_of e ls).in_data ≡ ends_in_data e.in_data ls
unfolding ends_of ends_in_data
ends_in e [] = refl
ends_in e (l ∷ ls) = ends_in (ends_after e l) ls

code_after : (d : Bool) (c n : ℕ) (bs : List ℕ) → length bs ≡ n → cond d c (c + n) ≡ c + length (if_there false d bs)
code_after true c n bs e = omega arith
code_after false c n bs e = rw e refl

data_end_after : (d : Bool) (c n : ℕ) (bs : List ℕ) → length bs ≡ n → cond d (c + n) c ≡ c + length (if_there true d bs)
data_end_after true c n bs e = rw e refl
data_end_after false c n bs e = omega arith

pub code_ends : (e : Ends) (ls : List Line) → (ends_of e ls).code_end ≡ e.code_end + length (section_of false e.in_data ls)
unfolding ends_of section_of
code_ends e [] = omega arith
code_ends e (l ∷ ls) =
    let rest = code_ends (ends_after e l) ls in
    let first = code_after e.in_data e.code_end (length (bytes_of l.statement)) (bytes_of l.statement) refl in
    let both = length-append (if_there false e.in_data (bytes_of l.statement)) (section_of false (data_after e.in_data l.statement) ls) in
    omega (arith, rest, first, both)

pub data_ends : (e : Ends) (ls : List Line) → (ends_of e ls).data_end ≡ e.data_end + length (section_of true e.in_data ls)
unfolding ends_of section_of
data_ends e [] = omega arith
data_ends e (l ∷ ls) =
    let rest = data_ends (ends_after e l) ls in
    let first = data_end_after e.in_data e.data_end (length (bytes_of l.statement)) (bytes_of l.statement) refl in
    let both = length-append (if_there true e.in_data (bytes_of l.statement)) (section_of true (data_after e.in_data l.statement) ls) in
    omega (arith, rest, first, both)

-- ---- labels

-- where a name stands at a line
abbrev pub place_at : Ends → List ℕ → Line → Place
place_at e name l = if is_labelled name l then record { kind = section_kind e.in_data; offset = here e } else undefined

place_here : (b : Bool) (p : Place) (e : Ends) (name : List ℕ) (ls : List Line) (l : Line)
    → place_of e name (ls ++ l ∷ []) ≡ cond (list_any (is_labelled name) ls) (place_of e name ls) (place_at (ends_of e ls) name l)
    → cond b p (place_of e name (ls ++ l ∷ [])) ≡ cond (b || list_any (is_labelled name) ls) (cond b p (place_of e name ls))
    (place_at (ends_of e ls) name l)
place_here true p e name ls l h = refl
place_here false p e name ls l h = h

pub place_more : (e : Ends) (name : List ℕ) (ls : List Line) (l : Line)
    → place_of e name (ls ++ l ∷ []) ≡ cond (list_any (is_labelled name) ls) (place_of e name ls) (place_at (ends_of e ls) name l)
unfolding place_of ends_of
place_more e name [] l = refl
place_more e name (x ∷ ls) l = place_here (is_labelled name x) (record { kind = section_kind e.in_data; offset = here e })
    (ends_after e x) name ls l (place_more (ends_after e x) name ls l)

-- ---- fixups

pub fixups_more : (w : Bool) (e : Ends) (names : List (List ℕ)) (ls : List Line) (l : Line)
    → fixups_in w e names (ls ++ l ∷ []) ≡ fixups_in w e names ls
    ++ if_there w (ends_of e ls).in_data (fixups_of (ends_of e ls).in_data (here (ends_of e ls)) names (use_of l.statement))
unfolding fixups_in ends_of
fixups_more w e names [] l = append-nil (if_there w e.in_data (fixups_of e.in_data (here e) names (use_of l.statement)))
fixups_more w e names (x ∷ ls) l = ap (λ fs. if_there w e.in_data (fixups_of e.in_data (here e) names (use_of x.statement)) ++ fs)
    (fixups_more w (ends_after e x) names ls l) ∙ sym (append_assoc
    (if_there w e.in_data (fixups_of e.in_data (here e) names (use_of x.statement))) (fixups_in w (ends_after e x) names ls)
    (if_there w (ends_of (ends_after e x) ls).in_data (fixups_of (ends_of (ends_after e x) ls).in_data
    (here (ends_of (ends_after e x) ls)) names (use_of l.statement))))
