-- For proofs: the neutral values of values that scripts write. docs/SCRIPTS.md lists them.
use Rattle.std.specs.Prelude.{ℕ, ◌*◌, List, Option, Some, None, slice_get}
use Rattle.std.specs.Option.{option_map_or}
use Rattle.host_model.specs.declared.object.TypedObject.{TypedObject}
use Rattle.host_model.specs.Objects.{shape_of}
use Rattle.note_types.specs.declared.notes.Notes.{Notes}
use Rattle.note_types.specs.declared.shape.Shape.{Shape}
use Rattle.note_types.specs.declared.types.Ty.{Ty}
use Rattle.note_types.specs.declared.types.Ty.TheVariants as ty
use Rattle.note_types.specs.declared.value.Value.{Value}
use Rattle.note_types.specs.declared.value.Value.TheVariants as value
use Rattle.host_model.specs.Values.{Neutral, Num, At, Handle, Method, Entry, Error, Junk, ObjectOf, number, null, word}

-- the address of an instance of an object of a shape
abbrev pub instance_value : ℕ → ℕ → Shape → Neutral
instance_value object instance s = At (ObjectOf object) (word (instance * s.n)) (word (instance * s.c))

-- the neutral value of a written value: junk where it says nothing, or names no object that is made
unfoldable pub written_value : Notes → List TypedObject → Value → Neutral
written_value notes made (value.Int n) = number n
written_value notes made (value.Size n c) = Num n c
written_value notes made (value.Ptr o i) = option_map_or (λ (x : TypedObject). instance_value o i (shape_of notes x.shape))
    (slice_get made o) Junk
written_value notes made value.Null = null
written_value notes made (value.StatusOk k) = number k
written_value notes made (value.StatusError k) = Error k
written_value notes made (value.Handle k) = Handle k
written_value notes made (value.Entry f) = Entry f
written_value notes made (value.Method m) = Method m
written_value notes made value.Any = Junk
written_value notes made value.Out = Junk
written_value notes made (value.Wild x) = Junk

-- what a written value is where it is put as a type: junk where anything is
abbrev pub value_as : Notes → List TypedObject → Ty → Value → Neutral
value_as notes made ty.Any v = Junk
value_as notes made _ v = written_value notes made v

-- what a written value is as the result of a native method, which may have none
abbrev pub result_value : Notes → List TypedObject → Option Ty → Value → Neutral
result_value notes made None v = Junk
result_value notes made (Some t) v = value_as notes made t v
