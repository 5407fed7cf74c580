-- What a map of texts and vectors finds and keeps, seen as files.
use Rattle.std.proofs.Common.{◌≡◌, ℕ, List, [], ◌∷◌, map, cond, true, false, Option, Some, option_map, String, Vec, Global, Ordering, Less}
use Rattle.std.proofs.Common.{Equal, Greater, string_bytes, nat_cmp, is_eq, refl, ap, sym, ◌∙◌}
use Rattle.std.specs.Map.{lookup}
use Rattle.std.specs.BTreeMap.{is_at, insert_entry}
use Rattle.std.specs.String.{string_cmp}
use Rattle.std.specs.Ordering.{match_ordering, eq_by_cmp}
use Rattle.std.specs.Cmp.Lexicographic.{slice_cmp}
use Rattle.std.proofs.lemmas.Cmp.{nat_list_cmp_total}
use Rattle.std.specs.FinMap.{find, get, insert, from_entries, get-from_entries, get-insert, same_map, slice_cmp-IsAntisymmetric}
use Rattle.std.specs.FinMap.{nat_cmp-IsAntisymmetric}
use Rattle.std.specs.FinMap.Entries.{put, find-put, by_order}
use Rattle.ebc_outside.specs.Memory.{file_of}

abbrev Entry : Type 0
Entry = String Global × Vec ℕ Global

-- an entry that is found, and else the rest
found_or : (b : _) (v : Vec ℕ Global) (rest : Option (Vec ℕ Global)) (d : Option (List ℕ)) → d ≡ option_map (λ x. x.items) rest
    → cond b (Some v.items) d ≡ option_map (λ x. x.items) (cond b (Some v) rest)
found_or true v rest d e = refl
found_or false v rest d e = e

-- what the entries have under a name
found : (name : List ℕ) (es : List Entry) → find (slice_cmp nat_cmp) name (map file_of es) ≡ option_map (λ v. v.items)
    (lookup (is_at (λ k. slice_cmp nat_cmp name (string_bytes k))) es)
found name [] = refl
found name (e ∷ es) = found_or (is_eq (slice_cmp nat_cmp name (string_bytes e.0))) e.1 _ _ (found name es)

-- what the files have under a name
pub file-found : (name : List ℕ) (es : List Entry) → get (from_entries {R = slice_cmp nat_cmp} (map file_of es)) name ≡ option_map
    (λ v. v.items) (lookup (is_at (λ k. slice_cmp nat_cmp name (string_bytes k))) es)
file-found name es = get-from_entries nat_list_cmp_total (map file_of es) name ∙ found name es

-- which of three lists comes next, by an order
match_files : (o : Ordering) (a b c : List Entry) → map file_of (match_ordering o a b c) ≡ match_ordering o (map file_of a) (map file_of b)
    (map file_of c)
match_files Less a b c = refl
match_files Equal a b c = refl
match_files Greater a b c = refl

by_match : {A : Type 0} (o : Ordering) (a b c : A) → match_ordering o a b c ≡ by_order o a b c
by_match Less a b c = refl
by_match Equal a b c = refl
by_match Greater a b c = refl

-- the entries with one more
files-insert_entry : (es : List Entry) (k : String Global) (v : Vec ℕ Global)
    → map file_of (insert_entry string_cmp es k v) ≡ put (slice_cmp nat_cmp) (string_bytes k) v.items (map file_of es)
files-insert_entry [] k v = refl
files-insert_entry (e ∷ es) k v = match_files (string_cmp k e.0) _ _ _ ∙ rw (files-insert_entry es k v) (by_match (string_cmp k e.0) _ _ _)

-- the files with one more
pub files-inserted : (es : List Entry) (k : String Global) (v : Vec ℕ Global)
    → from_entries {R = slice_cmp nat_cmp} (map file_of (insert_entry string_cmp es k v)) ≡ insert
    (from_entries {R = slice_cmp nat_cmp} (map file_of es)) (string_bytes k) v.items
files-inserted es k v = same_map nat_list_cmp_total (slice_cmp-IsAntisymmetric nat_cmp-IsAntisymmetric) _ _ (λ q.
    get-from_entries nat_list_cmp_total _ q ∙ rw (files-insert_entry es k v)
    (find-put (slice_cmp nat_cmp) nat_list_cmp_total q (string_bytes k) v.items (map file_of es))
    ∙ sym (get-insert nat_list_cmp_total (from_entries (map file_of es)) (string_bytes k) v.items q
    ∙ ap (cond (eq_by_cmp (slice_cmp nat_cmp) q (string_bytes k)) (Some v.items))
    (get-from_entries nat_list_cmp_total (map file_of es) q)))
