-- Where control is: the places of the image under a valid placement, and the machine with control elsewhere.
use Rattle.neutral_machine.proofs.Common.{◌≡◌, ℕ, ◌+◌, ◌-◌, ◌<◌, Bool, true, false, nat_eq, Option, ap, arith, ⊎_elim, ne_eqb, IsWidth}
use Rattle.neutral_machine.proofs.Common.{covers-inside, Concrete, Spot, Place, Placement, IsPlacement, image_range, World, Config}
use Rattle.neutral_machine.proofs.Common.{MachineStands, WorldFits}
use Rattle.ebc_width.specs.Ranges.{covers}
use Rattle.neutral_machine.specs.{Rows.flags_of, Stands.spot_at}
use Rattle.neutral_machine.proofs.Placed.{native_off_image}

-- a place of the image is that spot
pub place_spot : (w : ℕ) (world : World) (P : Placement) → IsWidth w → WorldFits world → IsPlacement w world P → (p : ℕ)
    → p < world.image_size → spot_at world P (P.image + p) ≡ Place p
place_spot w world P h ok pl p l =
    let off = native_off_image w world P h ok pl in
    let n : nat_eq (P.image + p) P.native ≡ false = ne_eqb (P.image + p) P.native
    (λ e. ⊎_elim (λ x. omega (arith, x, e)) (λ x. omega (arith, x, e, l)) off) in
    let i : covers (P.image + p) 1 (image_range world P) ≡ true =
    covers-inside (image_range world P) (P.image + p) 1 (omega arith) (omega (arith, l)) in
    rw n (rw i (ap Place (let e : P.image + p - P.image ≡ p = omega arith in e)))

-- the machine with other flags, and control elsewhere
pub turned_stands : (w : ℕ) (world : World) (P : Placement) (mapped : ℕ → ℕ) (but : Option ℕ) (a : Config) (s : Concrete) (c : Bool)
    (p : Spot) (flags ip : ℕ) → flags ≡ flags_of c → spot_at world P ip ≡ p → MachineStands w world P mapped but a s
    → MachineStands w world P mapped but (record a { c = c; spot = p }) (record s { flags = flags; ip = ip })
turned_stands w world P mapped but a s c p flags ip f e st = record {
  eight = st.eight;
  words = st.words;
  small = st.small;
  registers = st.registers;
  locals = st.locals;
  top = st.top;
  frames = st.frames;
  cells = st.cells;
  thunks = st.thunks;
  code = st.code;
  objects = st.objects;
  flags = f;
  gate = st.gate;
  spot = e;
}
