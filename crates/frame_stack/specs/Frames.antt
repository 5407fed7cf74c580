-- For proofs: how frames lie in the bytes of a region: frame i from the bottom begins at 224 * i. A list of frames has the
-- last one first. The layout is this project's own.
use Rattle.std.specs.Prelude.{ℕ, zero, suc, ◌+◌, ◌*◌, List, [], ◌∷◌, reverse, slice_get, slice_set, Option}
use Rattle.ebc_width.specs.Bytes.{little_endian}
use Rattle.frame_stack.specs.Words.{words_at}
use Rattle.frame_stack.specs.declared.Frame.{Frame}

-- the frame whose bytes begin at an offset
unfoldable pub frame_at : (ℕ → ℕ) → ℕ → Frame
frame_at b a = record {
  regs = words_at b a 8;
  ip = little_endian b (a + 64) 8;
  flags = little_endian b (a + 72) 8;
  entry = little_endian b (a + 80) 4;
  callback = little_endian b (a + 84) 4;
  func = little_endian b (a + 88) 4;
  count = little_endian b (a + 92) 4;
  slots = words_at b (a + 96) 16;
}

-- the frames in the bytes, where there are as many as this
unfoldable pub frames : (ℕ → ℕ) → ℕ → List Frame
frames b zero = []
frames b (suc d) = frame_at b (224 * d) ∷ frames b d

-- the frame that has i frames below it
unfoldable pub from_bottom : List Frame → ℕ → Option Frame
from_bottom fs i = slice_get (reverse fs) i

-- the frames with another number in slot j of the top one
unfoldable pub with_slot : ℕ → ℕ → List Frame → List Frame
with_slot j v [] = []
with_slot j v (f ∷ fs) = record f { slots = slice_set f.slots j v } ∷ fs

-- the frames with another mark on the top one
unfoldable pub with_mark : ℕ → ℕ → ℕ → List Frame → List Frame
with_mark entry callback count [] = []
with_mark entry callback count (f ∷ fs) = record f { entry = entry; callback = callback; count = count } ∷ fs
