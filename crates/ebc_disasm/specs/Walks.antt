-- For proofs: what the code keeps of the relocations and labels that are still to come, and how it finds a section. No caller sees it.
use Rattle.std.specs.Prelude.{◌≡◌, ⊤, ℕ, ◌+◌, ◌^◌, ◌<◌, ◌≤◌, List, length, Bool, true, false, not, ◌&&◌, ◌||◌, Option, Some, None}
use Rattle.std.specs.Prelude.{option_map, nat_eq, nat_lt, if◌then◌else◌}
use Rattle.std.specs.List.{AllWithin, find, list_any}
use Rattle.ebc_insn.specs.declared.Insn.{Insn}
use Rattle.asm_text.specs.declared.listing.Listed.{Listed}
use Rattle.asm_text.specs.Writing.{ListedFits}
use Rattle.pe_image.specs.declared.image.Image.{Image}
use Rattle.pe_image.specs.declared.image.Section.{Section}
use Rattle.ebc_disasm.specs.declared.items.Spot.{Spot}
use Rattle.ebc_disasm.specs.Listings.{is_cut, labels, named, takes_label, with_label}

-- a place is there, and lies before an end
abbrev pub is_before : ℕ → Option ℕ → Bool
is_before end None = false
is_before end (Some place) = nat_lt place end

-- a place is there, and is this one
abbrev pub is_at : ℕ → Option ℕ → Bool
is_at x None = false
is_at x (Some place) = nat_eq x place

-- what lies before an end passes a test
abbrev pub passes_before : (ℕ → Bool) → ℕ → Option ℕ → Bool
passes_before test end None = true
passes_before test end (Some place) = not (nat_lt place end) || test place

-- so many bytes from a place on end behind another place
abbrev pub reaches : ℕ → ℕ → ℕ → Bool
reaches span x place = nat_lt x (place + span)

-- the label in place of an instruction's immediate, if any, where the first relocation that reaches behind the place of an
-- instruction lets it be listed
abbrev pub label_in : Image → Insn → ℕ → Option ℕ → Option (Option ℕ)
label_in image i next None = Some None
label_in image i next (Some r) =
    if nat_lt r next
    then (if takes_label i && nat_eq (r + 8) next then option_map Some (named image r) else None)
    else Some None

-- what is listed of an instruction with its label
abbrev pub labelled : Insn → ℕ → Option (Option ℕ) → Option (Listed × ℕ)
labelled i n None = None
labelled i n (Some label) = Some (with_label i label, n)

-- A label stands only where one may.
abbrev pub MayHave : Insn → Option (Option ℕ) → Type 0
MayHave i (Some (Some target)) = (takes_label i ≡ true) × (target < 2 ^ 32)
MayHave i _ = ⊤

-- What is listed may stand in a listing, and has one at least of so many bytes, and no more than there are.
abbrev pub ItemFits : ℕ → Listed × ℕ → Type 0
ItemFits count item = ListedFits item.0 × (1 ≤ item.1) × (item.1 ≤ count)

-- What is left of places has the first that reaches behind each place from one on.
abbrev pub IsLeft : ℕ → ℕ → List ℕ → List ℕ → Type 0
IsLeft span x places left = (y : ℕ) → x ≤ y → find (reaches span y) left ≡ find (reaches span y) places

-- Relocations and labels that are left tell of each place from one on which come next.
pub record IsComing (image : Image) (x : ℕ) (left marked : List ℕ) : Type 0 where
  pub relocs : IsLeft 8 x image.relocs left
  pub at : (y : ℕ) → x ≤ y → list_any (nat_eq y) (labels image) ≡ is_at y (find (reaches 1 y) marked)
  pub inside : (y n : ℕ) → x ≤ y → is_cut image y n ≡ is_before (y + n) (find (reaches 1 (y + 1)) marked)

-- A spot has the first relocation that reaches behind its place, and the first label behind it.
pub record IsSpot (image : Image) (spot : Spot) : Type 0 where
  pub reloc : spot.reloc ≡ find (reaches 8 spot.place) image.relocs
  pub label : (n : ℕ) → is_cut image spot.place n ≡ is_before (spot.place + n) spot.label

-- The sections before one of this number end at a place or before it, and the others behind it.
abbrev pub EndsParted : List Section → ℕ → ℕ → Type 0
EndsParted sections x n =
    AllWithin (λ (s : Section). s.place + s.size ≤ x) sections 0 n
    × AllWithin (λ (s : Section). x < s.place + s.size) sections n (length sections)
