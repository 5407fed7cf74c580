-- The labels of objects, one object or one symbol more.
use Rattle.label_places.proofs.Common.{◌≡◌, ◌+◌, ◌<◌, ◌≤◌, List, [], ◌∷◌, ◌++◌, length, get_or, map, take, drop, sym, ap, ◌∙◌, append-nil}
use Rattle.label_places.proofs.Common.{append_assoc, filter, map-append, filter-append, taken, Label, labels_from, labels_in}
use Rattle.std.proofs.{Common.ℕ, lemmas.List.drop_all}
use Rattle.ebc_object.specs.declared.object.Symbol.{Symbol}
use Rattle.ebc_link.specs.declared.layout.Home.{Home}
use Rattle.ebc_link.specs.Layout.{Laid}
use Rattle.label_places.specs.Labels.{is_label, label_in}

-- one symbol more
pub labels-more : (object : ℕ) (h : Home) (symbols : List Symbol) (i : ℕ) (s : Symbol) → i < length symbols → s ≡ get_or symbols i s
    → labels_in object h (take (i + 1) symbols) ≡ labels_in object h (take i symbols) ++ labels_in object h (s ∷ [])
labels-more object h symbols i s within is =
    ap (labels_in object h) (taken symbols i s within is)
    ∙ (ap (map (label_in object h)) (filter-append is_label (take i symbols) (s ∷ []))
    ∙ map-append (label_in object h) (filter is_label (take i symbols)) (filter is_label (s ∷ [])))

-- one object more
pub object-more : (ls : List Laid) (i : ℕ) (l : Laid) (old new whole : List Label) → drop i ls ≡ l ∷ drop (i + 1) ls
    → new ≡ old ++ labels_in i l.home l.object.symbols → old ++ labels_from i (drop i ls) ≡ whole
    → new ++ labels_from (i + 1) (drop (i + 1) ls) ≡ whole
unfolding labels_from
object-more ls i l old new whole more put before =
    ap (λ found. found ++ labels_from (i + 1) (drop (i + 1) ls)) put
    ∙ (append_assoc old (labels_in i l.home l.object.symbols) (labels_from (i + 1) (drop (i + 1) ls))
    ∙ (ap (λ rest. old ++ labels_from i rest) (sym more) ∙ before))

-- no object more
pub objects-done : (ls : List Laid) (i : ℕ) (found whole : List Label) → length ls ≤ i → found ++ labels_from i (drop i ls) ≡ whole
    → found ≡ whole
unfolding labels_from
objects-done ls i found whole past before =
    sym (append-nil found) ∙ (ap (λ rest. found ++ labels_from i rest) (sym (drop_all i ls past)) ∙ before)
