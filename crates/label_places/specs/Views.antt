-- For proofs: what the parts of a reference to a label are, as a definition has them, and steps in the search of a label and of an end.
use Rattle.std.specs.Prelude.{◌≡◌, ◌⊎◌, ℕ, ◌<◌, ◌≤◌, ◌&&◌, Bool, true, false, List, [], ◌∷◌, Option, Some, None, Result, Ok, Err, filter}
use Rattle.std.specs.Prelude.{nat_eq, nat_lt, option_map, slice_get}
use Rattle.std.specs.List.{list_any}
use Rattle.label_places.specs.declared.label.Position.{Position}
use Rattle.label_places.specs.declared.seeking.NotFound.{NotFound}
use Rattle.label_places.specs.declared.seeking.NotFound.TheVariants.{Unknown, Several}
use Rattle.label_places.specs.References.{LabelReference}
use Rattle.label_places.specs.Sought.{is_object}
use Rattle.label_places.specs.declared.reference.Reference.{Reference}

abbrev pub reference_view : Reference → LabelReference
reference_view r = record { object = option_map (λ o. o.now) r.object; name = r.name.now; addend = r.addend }

-- ---- the search of a label

-- the label that is meant so far, and one more that is meant or isn't
abbrev pub meant_so_far : Option Position → Position → Bool → Result (Option Position) NotFound
meant_so_far found p false = Ok found
meant_so_far None p true = Ok (Some p)
meant_so_far (Some q) p true = Err Several

-- the only one of some positions
abbrev pub the_only : List Position → Result Position NotFound
the_only [] = Err Unknown
the_only (p ∷ []) = Ok p
the_only (p ∷ q ∷ ps) = Err Several

-- whether a position is in an object that is meant
abbrev pub is_meant_in : List (List ℕ) → Option (List ℕ) → Position → Bool
is_meant_in names object p = is_object object (slice_get names p.object)

-- the only one of some positions that is in an object that is meant
abbrev pub only_in : List (List ℕ) → Option (List ℕ) → List Position → Result Position NotFound
only_in names object ps = the_only (filter (is_meant_in names object) ps)

-- ---- the search of an end

-- whether a position is in this section of this object
abbrev pub is_at : ℕ → ℕ → Position → Bool
is_at object section p = nat_eq p.object object && nat_eq p.section section

-- whether it lies there between a place and an end
abbrev pub is_between : ℕ → ℕ → ℕ → ℕ → Position → Bool
is_between object section place end p = is_at object section p && (nat_lt place p.place && nat_lt p.place end)

-- whether it is there at a place
abbrev pub is_placed : ℕ → ℕ → ℕ → Position → Bool
is_placed object section place p = is_at object section p && nat_eq p.place place

-- An end is the bound, or the first place of a position of a section above a place, where that is less.
pub record HasEnd (object section place bound : ℕ) (ps : List Position) (end : ℕ) : Type 0 where
  pub within : end ≤ bound
  pub none : list_any (is_between object section place end) ps ≡ false
  pub one : (end ≡ bound) ⊎ ((list_any (is_placed object section end) ps ≡ true) × (place < end))
