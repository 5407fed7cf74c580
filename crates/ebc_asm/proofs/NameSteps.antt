-- The places of names as a line is taken: its label, and what it makes global.
use Rattle.std.proofs.Common.{◌≡◌, ℕ, List, [], ◌∷◌, ◌++◌, map, Some, Bool, true, false, refl, sym, ap, ◌∙◌}
use Rattle.std.specs.Prelude.{bytes_eq}
use Rattle.std.specs.List.{list_any}
use Rattle.ebc_base.specs.Tables.{is_named, with_name}
use Rattle.asm_text.specs.Lines.{Line}
use Rattle.ebc_asm.specs.declared.names.Standing.{Standing}
use Rattle.ebc_asm.specs.Held.{nowhere, replaced, standing_in, standing_of, symbols_of}
use Rattle.ebc_asm.specs.Symbols.{Place, flag, global_of, here, is_labelled, makes_global, place_of, section_kind, start, symbol_of}
use Rattle.ebc_asm.proofs.LineLaws.{ends_of}
use Rattle.ebc_asm.proofs.NumberLaws.{same_bytes}
use Rattle.ebc_asm.proofs.StateLaws.{Apart}
use Rattle.ebc_asm.proofs.PlaceLaws.{other_way, replaced_is, standing_is}
use Rattle.ebc_asm.proofs.StandingLaws.{global_here, global_keeps, label_keeps, labelled_in, place_here}

-- the symbols of names that stand where lines say
pub symbols_are : (ls : List Line) (ns : List (List ℕ)) → symbols_of ns (map (standing_in ls) ns) ≡ map (symbol_of ls) ns
symbols_are ls [] = refl
symbols_are ls (n ∷ ns) = ap (λ ss. symbol_of ls n ∷ ss) (symbols_are ls ns)

labels_it : (l : Line) (name m : List ℕ) (b : Bool) → l.label ≡ Some name → bytes_eq m name ≡ b → is_labelled m l ≡ b
labels_it l name m b e h = rw e h

globals_it : (l : Line) (name m : List ℕ) (b : Bool) → global_of l.statement ≡ Some name → bytes_eq m name ≡ b → makes_global m l ≡ b
globals_it l name m b e h = rw e h

-- the label of a line stands where its section ends
pub defined : (ls : List Line) (l : Line) (name : List ℕ) (ns : List (List ℕ)) → l.label ≡ Some name → Apart ns
    → (is_named name ns ≡ false → standing_in ls name ≡ nowhere)
    → (standing_of name ns (map (standing_in ls) ns)).kind ≡ 0
    → replaced name ns (map (standing_in ls) ns) (record {
      kind = section_kind (ends_of start ls).in_data;
      global = (standing_of name ns (map (standing_in ls) ns)).global;
      offset = here (ends_of start ls);
    }) ≡ map (labelled_in ls l)
    (with_name name ns)
defined ls l name ns e apart new h =
    let s = standing_is (standing_in ls) name ns new in
    let none : (place_of start name ls).kind ≡ 0 = sym (ap (λ (t : Standing). t.kind) s) ∙ h in
    let there = place_here ls l name (labels_it l name name true e (same_bytes name)) none in
    let value : record {
      kind = section_kind (ends_of start ls).in_data;
      global = (standing_of name ns (map (standing_in ls) ns)).global;
      offset = here (ends_of start ls);
    } ≡ labelled_in ls l name =
    ap (λ (t : Standing). record { kind = section_kind (ends_of start ls).in_data; global = t.global; offset = here (ends_of start ls) }) s
    ∙ ap (λ (p : Place). record { kind = p.kind; global = flag (list_any (makes_global name) ls); offset = p.offset }) (sym there) in
    ap (λ v. replaced name ns (map (standing_in ls) ns) v) value
    ∙ replaced_is (standing_in ls) (labelled_in ls l) name ns apart new
    (λ m d. sym (label_keeps ls l m (labels_it l name m false e (other_way name m (bytes_eq m name) refl d))))

-- the name that it makes global is global
pub made_global : (ls : List Line) (l : Line) (name : List ℕ) (ns : List (List ℕ)) → global_of l.statement ≡ Some name → Apart ns
    → (is_named name ns ≡ false → labelled_in ls l name ≡ nowhere)
    → replaced name ns (map (labelled_in ls l) ns) (record (standing_of name ns (map (labelled_in ls l) ns)) { global = 1 }) ≡ map
    (standing_in (ls ++ l ∷ [])) (with_name name ns)
made_global ls l name ns e apart new =
    let s = standing_is (labelled_in ls l) name ns new in
    let value : record (standing_of name ns (map (labelled_in ls l) ns)) { global = 1 } ≡ standing_in (ls ++ l ∷ []) name =
    ap (λ (t : Standing). record t { global = 1 }) s ∙ sym (global_here ls l name (globals_it l name name true e (same_bytes name))) in
    ap (λ v. replaced name ns (map (labelled_in ls l) ns) v) value
    ∙ replaced_is (labelled_in ls l) (standing_in (ls ++ l ∷ [])) name ns apart new
    (λ m d. sym (global_keeps ls l m (globals_it l name m false e (other_way name m (bytes_eq m name) refl d))))
