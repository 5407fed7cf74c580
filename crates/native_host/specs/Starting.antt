-- For proofs: what is counted over a script; where its objects lie, and what they take, by the sizes of the shapes alone.
-- docs/HOST.md, "Memory".
use Rattle.std.specs.Prelude.{◌≡◌, ℕ, ◌+◌, ◌*◌, ◌^◌, ◌≤◌, List, [], ◌∷◌, ◌++◌, length, map, slice_index, vec_capacity}
use Rattle.std.specs.List.{sum_by}
use Rattle.ebc_width.specs.Ranges.{Range}
use Rattle.object_memory.specs.Memory.{Memory, padded}
use Rattle.note_types.specs.declared.script.ScriptCall.{ScriptCall}
use Rattle.note_types.specs.declared.script.ScriptObject.{ScriptObject}
use Rattle.host_model.specs.Objects.{static_object}
use Rattle.host_model.specs.Placements.{all_ranges, own_placement}
use Rattle.host_model.specs.Scripts.{all_made}
use Rattle.host_model.specs.World.{World}
use Rattle.native_host.specs.declared.host.Host.{Host}
use Rattle.native_host.specs.Kept.{IsOf, placement_of}

-- how many objects calls make
unfoldable pub rest_made : List ScriptCall → ℕ
rest_made [] = 0
rest_made (c ∷ cs) = length c.make + rest_made cs

-- the most events that calls give
unfoldable pub rest_events : List ScriptCall → ℕ
rest_events [] = 0
rest_events (c ∷ cs) = 2 + 2 * length c.enter + rest_events cs

-- what an object takes of memory, where an instance of each shape has so many bytes
abbrev pub room_in : List ℕ → ScriptObject → ℕ
room_in sizes o = padded (o.count * slice_index sizes o.shape)

-- what objects take
unfoldable pub rooms_in : List ℕ → List ScriptObject → ℕ
rooms_in sizes [] = 0
rooms_in sizes (o ∷ os) = room_in sizes o + rooms_in sizes os

-- their bases, one after the other from an address on
unfoldable pub bases_in : List ℕ → ℕ → List ScriptObject → List ℕ
bases_in sizes base [] = []
bases_in sizes base (o ∷ os) = base ∷ bases_in sizes (base + room_in sizes o) os

-- what the objects take that calls make, and their bases
unfoldable pub rooms_made : List ℕ → List ScriptCall → ℕ
rooms_made sizes [] = 0
rooms_made sizes (c ∷ cs) = rooms_in sizes c.make + rooms_made sizes cs

unfoldable pub bases_made : List ℕ → ℕ → List ScriptCall → List ℕ
bases_made sizes base [] = []
bases_made sizes base (c ∷ cs) = bases_in sizes base c.make ++ bases_made sizes (base + rooms_in sizes c.make) cs

-- A host of a run, and its memory, before anything is placed: both have room for all that is ever placed.
pub record IsFresh (w : ℕ) (world : World) (h : Host w) (m : Memory) : Type 0 where
  pub placement : placement_of h.places ≡ own_placement w world
  pub size : h.places.image_size ≡ world.image_size
  pub notes : IsOf w world.notes h.places
  pub made : h.made.items ≡ map static_object world.notes.statics
  pub reserved : length (all_made world.notes world.script) ≤ vec_capacity h.made
  pub stack : h.places.stack_bytes ≤ 2 ^ 20
  pub empty : m.objects ≡ []
  pub bytes : m.byte_limit ≡ sum_by (λ (r : Range). padded r.size) (all_ranges w world (own_placement w world))
  pub count : m.object_limit ≡ length (all_ranges w world (own_placement w world))
