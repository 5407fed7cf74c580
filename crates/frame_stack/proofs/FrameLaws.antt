-- Laws of frames in bytes: which bytes tell a frame, where each lies, and what a push, a slot and a mark leave.
use Rattle.std.proofs.Common.{◌≡◌, ℕ, zero, suc, ◌+◌, ◌-◌, ◌*◌, ◌%◌, ◌^◌, ◌<◌, ◌≤◌, ◌⊎◌, inl, inr, ⊎_elim, List, [], ◌∷◌, length, set}
use Rattle.std.proofs.Common.{get_or, refl, sym, ap, ap₂, ◌∙◌, arith, Some, reverse, slice_get}
use Rattle.std.specs.Prelude.{slice_index}
use Rattle.std.proofs.lemmas.List.{length-reverse, get_or-reverse}
use Rattle.std.proofs.lemmas.Option.{slice_get_within, get_or_from_slice_get, same_Some}
use Rattle.ebc_width.specs.Bytes.{little_endian, put}
use Rattle.ebc_width.proofs.ByteLaws.{little_endian-agree, little_endian-same, put-apart}
use Rattle.frame_stack.specs.Words.{words_at, SameApart}
use Rattle.frame_stack.specs.Frames.{frame_at, frames, from_bottom, with_slot, with_mark}
use Rattle.frame_stack.specs.declared.Frame.{Frame}
use Rattle.frame_stack.proofs.WordLaws.{words-agree, words-put, word-index, same_below}

-- ---- where frames lie

-- 224 bytes tell a frame
frame-agree : (b c : ℕ → ℕ) (a : ℕ) → ((x : ℕ) → a ≤ x → x < a + 224 → c x ≡ b x) → frame_at c a ≡ frame_at b a
unfolding frame_at
frame-agree b c a same = λ i. record {
  regs = words-agree b c a 8 (λ x from to. same x from (omega arith)) i;
  ip = little_endian-agree c b (a + 64) 8 (λ x from to. same x (omega arith) (omega arith)) i;
  flags = little_endian-agree c b (a + 72) 8 (λ x from to. same x (omega arith) (omega arith)) i;
  entry = little_endian-agree c b (a + 80) 4 (λ x from to. same x (omega arith) (omega arith)) i;
  callback = little_endian-agree c b (a + 84) 4 (λ x from to. same x (omega arith) (omega arith)) i;
  func = little_endian-agree c b (a + 88) 4 (λ x from to. same x (omega arith) (omega arith)) i;
  count = little_endian-agree c b (a + 92) 4 (λ x from to. same x (omega arith) (omega arith)) i;
  slots = words-agree b c (a + 96) 16 (λ x from to. same x (omega arith) (omega arith)) i;
}

pub frames-agree : (b c : ℕ → ℕ) (d : ℕ) → ((x : ℕ) → x < 224 * d → c x ≡ b x) → frames c d ≡ frames b d
unfolding frames
frames-agree b c zero same = refl
frames-agree b c (suc d) same =
    ap₂ (λ f fs. f ∷ fs) (frame-agree b c (224 * d) (λ x from to. same x (omega arith))) (frames-agree b c d (λ x to. same x (omega arith)))

pub frames_none : (b : ℕ → ℕ) → frames b 0 ≡ []
unfolding frames
frames_none b = refl

frames-top : (b : ℕ → ℕ) (d e : ℕ) → d ≡ suc e → frames b d ≡ frame_at b (224 * e) ∷ frames b e
unfolding frames
frames-top b d e is = ap (frames b) is

length-frames : (b : ℕ → ℕ) (d : ℕ) → length (frames b d) ≡ d
unfolding frames
length-frames b zero = refl
length-frames b (suc d) = ap suc (length-frames b d)

pub depth_is : (b : ℕ → ℕ) (d : ℕ) (fs : List Frame) → frames b d ≡ fs → d ≡ length fs
depth_is b d fs is = sym (length-frames b d) ∙ ap length is

-- the bytes of as many frames are as many frames
pub length_is : (b c : ℕ → ℕ) (d : ℕ) (fs : List Frame) → frames b d ≡ fs → length (frames c d) ≡ length fs
length_is b c d fs is = length-frames c d ∙ depth_is b d fs is

get_or-frames : (b : ℕ → ℕ) (d i k : ℕ) (g : Frame) → k + (i + 1) ≡ d → get_or (frames b d) k g ≡ frame_at b (224 * i)
unfolding frames
get_or-frames b zero i k g is = absurd (omega arith)
get_or-frames b (suc d) i zero g is = let last : d ≡ i = omega arith in ap (λ n. frame_at b (224 * n)) last
get_or-frames b (suc d) i (suc k) g is = get_or-frames b d i k g (omega arith)

-- the frame that has i frames below it begins at 224 * i
pub frame-from_bottom : (b : ℕ → ℕ) (d i : ℕ) (fs : List Frame) (f : Frame) → frames b d ≡ fs → from_bottom fs i ≡ Some f
    → frame_at b (224 * i) ≡ f
unfolding from_bottom
frame-from_bottom b d i fs f are is =
    let count = depth_is b d fs are in
    let less : i < length fs = omega (arith, slice_get_within (reverse fs) i f is, length-reverse fs) in
    sym (get_or-frames b d i (length fs - 1 - i) f (omega (arith, less, count))) ∙ ap (λ gs. get_or gs (length fs - 1 - i) f) are
    ∙ sym (get_or-reverse fs i f less) ∙ get_or_from_slice_get (reverse fs) i f f is

-- ---- what the fields of a frame are

frame-slots : (b : ℕ → ℕ) (a : ℕ) → (frame_at b a).slots ≡ words_at b (a + 96) 16
unfolding frame_at
frame-slots b a = refl

-- a slot of the frame that has i frames below it
pub slot_is : (b : ℕ → ℕ) (d i a j : ℕ) (fs : List Frame) (f : Frame) → frames b d ≡ fs → from_bottom fs i ≡ Some f → a ≡ 224 * i → j < 16
    → little_endian b (a + 96 + 8 * j) 8 ≡ slice_index f.slots j
slot_is b d i a j fs f are is begins less =
    sym (word-index b (a + 96) 16 j less)
    ∙ ap (λ ws. slice_index ws j) (sym (frame-slots b a) ∙ ap (λ (g : Frame). g.slots)
    (ap (frame_at b) begins ∙ frame-from_bottom b d i fs f are is))

frame-mark : (b : ℕ → ℕ) (a : ℕ) (f : Frame) → frame_at b a ≡ f
    → (little_endian b (a + 80) 4 ≡ f.entry) × (little_endian b (a + 84) 4 ≡ f.callback) × (little_endian b (a + 92) 4 ≡ f.count)
unfolding frame_at
frame-mark b a f is = (ap (λ (g : Frame). g.entry) is, ap (λ (g : Frame). g.callback) is, ap (λ (g : Frame). g.count) is)

-- the entry, the callback and the count of the top frame, which begins at a
pub mark_is : (b : ℕ → ℕ) (d a : ℕ) (fs : List Frame) (f : Frame) → frames b d ≡ fs → slice_get fs 0 ≡ Some f → a + 224 ≡ 224 * length fs
    → (little_endian b (a + 80) 4 ≡ f.entry) × (little_endian b (a + 84) 4 ≡ f.callback) × (little_endian b (a + 92) 4 ≡ f.count)
mark_is b d a fs f are is top =
    let count = depth_is b d fs are in let below : ℕ = length fs - 1 in
    let some : 0 < length fs = slice_get_within fs 0 f is in let begins : a ≡ 224 * below = omega (arith, top, some) in
    let last = frames-top b d below (omega (arith, count, some)) in
    frame-mark b a f (ap (frame_at b) begins ∙ same_Some (frame_at b (224 * below)) f (ap (λ gs. slice_get gs 0) (sym last ∙ are) ∙ is))

-- ---- numbers that are stored one after another

-- the bytes after the low k bytes of a number are stored at an offset
abbrev pub Puts : (ℕ → ℕ) → (ℕ → ℕ) → ℕ → ℕ → ℕ → Type 0
Puts b c a k v = (x : ℕ) → c x ≡ put b a k v x

pub Puts-same : (b c : ℕ → ℕ) (a k v w : ℕ) → Puts b c a k v → v ≡ w → Puts b c a k w
Puts-same b c a k v w is same x = is x ∙ ap (λ n. put b a k n x) same

-- the byte at an offset that the store doesn't reach
stays : (b c : ℕ → ℕ) (a k v x : ℕ) → Puts b c a k v → (x < a) ⊎ (a + k ≤ x) → c x ≡ b x
stays b c a k v x is apart = is x ∙ put-apart b a k v x apart

-- a number is there that was stored, and not written over since
stands : (b c d : ℕ → ℕ) (a k v : ℕ) → Puts b c a k v → ((x : ℕ) → x < a + k → d x ≡ c x) → v % 256 ^ k ≡ v → little_endian d a k ≡ v
stands b c d a k v is since fits = little_endian-agree d (put b a k v) a k
    (λ x from to. since x to ∙ is x) ∙ little_endian-same b a k v ∙ fits

-- ---- a frame is put on top and taken away

pub frames-push : (b c : ℕ → ℕ) (d a : ℕ) (fs : List Frame) (f : Frame) → frames b d ≡ fs → a ≡ 224 * d → frame_at c a ≡ f
    → ((x : ℕ) → x < a → c x ≡ b x)
    → frames c (d + 1) ≡ f ∷ fs
frames-push b c d a fs f are begins is same =
    frames-top c (d + 1) d (omega arith)
    ∙ ap₂ (λ g gs. g ∷ gs) (ap (frame_at c) (sym begins) ∙ is) (frames-agree b c d (λ x to. same x (omega (arith, begins))) ∙ are)

pub frames-pop : (b : ℕ → ℕ) (d e a : ℕ) (fs : List Frame) → frames b d ≡ fs → d ≡ suc e → a ≡ 224 * e → fs ≡ frame_at b a ∷ frames b e
frames-pop b d e a fs are deep begins = sym are ∙ frames-top b d e deep ∙ ap (λ k. frame_at b k ∷ frames b e) (sym begins)

-- ---- a slot of the top frame

frame-with_slot : (b c : ℕ → ℕ) (a j v : ℕ) → j < 16 → v < 2 ^ 64 → Puts b c (a + 96 + 8 * j) 8 v
    → frame_at c a ≡ record (frame_at b a) { slots = set (words_at b (a + 96) 16) j v }
unfolding frame_at
frame-with_slot b c a j v less small is =
    let low : (x : ℕ) → x < a + 96 → c x ≡ b x = λ x to. stays b c (a + 96 + 8 * j) 8 v x is (inl (omega arith)) in
    λ i. record {
      regs = words-agree b c a 8 (λ x from to. low x (omega arith)) i;
      ip = little_endian-agree c b (a + 64) 8 (λ x from to. low x (omega arith)) i;
      flags = little_endian-agree c b (a + 72) 8 (λ x from to. low x (omega arith)) i;
      entry = little_endian-agree c b (a + 80) 4 (λ x from to. low x (omega arith)) i;
      callback = little_endian-agree c b (a + 84) 4 (λ x from to. low x (omega arith)) i;
      func = little_endian-agree c b (a + 88) 4 (λ x from to. low x (omega arith)) i;
      count = little_endian-agree c b (a + 92) 4 (λ x from to. low x (omega arith)) i;
      slots = words-put b c (a + 96) 16 j v less small is i;
    }

pub frames-with_slot : (b c : ℕ → ℕ) (d a j v : ℕ) (fs : List Frame) → frames b d ≡ fs → a + 224 ≡ 224 * length fs → j < 16 → v < 2 ^ 64
    → Puts b c (a + 96 + 8 * j) 8 v
    → frames c d ≡ with_slot j v fs
unfolding with_slot frame_at
frames-with_slot b c d a j v [] are top less small is = absurd (omega arith)
frames-with_slot b c d a j v (f ∷ fs) are top less small is =
    let below : ℕ = length fs in let begins : a ≡ 224 * below = omega arith in let deep : d ≡ suc below = depth_is b d (f ∷ fs) are in
    let written = frame-with_slot b c a j v less small is in
    let kept = frames-agree b c below (λ x to. stays b c (a + 96 + 8 * j) 8 v x is (inl (omega arith))) in
    frames-top c d below deep ∙ ap₂ (λ g gs. g ∷ gs)
    (ap (frame_at c) (sym begins) ∙ written ∙ ap (λ k. record (frame_at b k) { slots = set (words_at b (k + 96) 16) j v }) begins) kept
    ∙ ap (with_slot j v) (sym (frames-top b d below deep) ∙ are)

-- ---- the mark of the top frame

frame-with_mark : (b c1 c2 c : ℕ → ℕ) (a e k n : ℕ) → e < 2 ^ 32 → k < 2 ^ 32 → n < 2 ^ 32 → Puts b c1 (a + 80) 4 e
    → Puts c1 c2 (a + 84) 4 k → Puts c2 c (a + 92) 4 n
    → frame_at c a ≡ record (frame_at b a) { entry = e; callback = k; count = n }
unfolding frame_at
frame-with_mark b c1 c2 c a e k n se sk sn is1 is2 is3 =
    let third : (x : ℕ) → x < a + 92 → c x ≡ c2 x = λ x to. stays c2 c (a + 92) 4 n x is3 (inl to) in
    let second : (x : ℕ) → x < a + 84 → c x ≡ c1 x = λ x to. third x (omega arith) ∙ stays c1 c2 (a + 84) 4 k x is2 (inl to) in
    let low : (x : ℕ) → x < a + 80 → c x ≡ b x = λ x to. second x (omega arith) ∙ stays b c1 (a + 80) 4 e x is1 (inl to) in
    let middle : (x : ℕ) → a + 88 ≤ x → c2 x ≡ b x = λ x from. stays c1 c2 (a + 84) 4 k x is2 (inr (omega arith)) ∙ stays b c1
    (a + 80) 4 e x is1 (inr (omega arith)) in
    let high : (x : ℕ) → a + 96 ≤ x → c x ≡ b x = λ x from. stays c2 c (a + 92) 4 n x is3 (inr (omega arith)) ∙ middle x (omega arith) in
    let entry_is = stands b c1 c (a + 80) 4 e is1 (λ x to. second x (omega arith)) (omega arith) in
    let callback_is = stands c1 c2 c (a + 84) 4 k is2 (λ x to. third x (omega arith)) (omega arith) in
    let count_is = stands c2 c c (a + 92) 4 n is3 (λ x to. refl) (omega arith) in
    λ i. record {
      regs = words-agree b c a 8 (λ x from to. low x (omega arith)) i;
      ip = little_endian-agree c b (a + 64) 8 (λ x from to. low x (omega arith)) i;
      flags = little_endian-agree c b (a + 72) 8 (λ x from to. low x (omega arith)) i;
      entry = entry_is i;
      callback = callback_is i;
      func = little_endian-agree c b (a + 88) 4 (λ x from to. third x (omega arith) ∙ middle x from) i;
      count = count_is i;
      slots = words-agree b c (a + 96) 16 (λ x from to. high x from) i;
    }

pub frames-with_mark : (b c1 c2 c : ℕ → ℕ) (d a e k n : ℕ) (fs : List Frame) → frames b d ≡ fs → a + 224 ≡ 224 * length fs → e < 2 ^ 32
    → k < 2 ^ 32 → n < 2 ^ 32
    → Puts b c1 (a + 80) 4 e → Puts c1 c2 (a + 84) 4 k → Puts c2 c (a + 92) 4 n → frames c d ≡ with_mark e k n fs
unfolding with_mark
frames-with_mark b c1 c2 c d a e k n [] are top se sk sn is1 is2 is3 = absurd (omega arith)
frames-with_mark b c1 c2 c d a e k n (f ∷ fs) are top se sk sn is1 is2 is3 =
    let below : ℕ = length fs in let begins : a ≡ 224 * below = omega arith in let deep : d ≡ suc below = depth_is b d (f ∷ fs) are in
    let written = frame-with_mark b c1 c2 c a e k n se sk sn is1 is2 is3 in
    let kept = frames-agree b c below (λ x to. stays c2 c (a + 92) 4 n x is3 (inl (omega arith))
    ∙ stays c1 c2 (a + 84) 4 k x is2 (inl (omega arith)) ∙ stays b c1 (a + 80) 4 e x is1 (inl (omega arith))) in
    frames-top c d below deep ∙ ap₂ (λ g gs. g ∷ gs)
    (ap (frame_at c) (sym begins) ∙ written ∙ ap (λ o. record (frame_at b o) { entry = e; callback = k; count = n }) begins) kept
    ∙ ap (with_mark e k n) (sym (frames-top b d below deep) ∙ are)

-- ---- a frame that is written field by field, each above the one before

module _ (o b1 b2 b3 b4 b5 b6 b7 b8 : ℕ → ℕ) (a : ℕ) (f : Frame) (regs_long : length f.regs ≡ 8) (slots_long : length f.slots ≡ 16)
    (regs : words_at b1 a (length f.regs) ≡ f.regs) (regs_apart : SameApart o b1 a (8 * length f.regs)) (ip : Puts b1 b2 (a + 64) 8 f.ip)
    (flags : Puts b2 b3 (a + 72) 8 f.flags) (entry : Puts b3 b4 (a + 80) 4 f.entry) (callback : Puts b4 b5 (a + 84) 4 f.callback)
    (func : Puts b5 b6 (a + 88) 4 f.func) (count : Puts b6 b7 (a + 92) 4 f.count)
    (slots : words_at b8 (a + 96) (length f.slots) ≡ f.slots) (slots_apart : SameApart b7 b8 (a + 96) (8 * length f.slots)) where
  since7 : (x : ℕ) → x < a + 96 → b8 x ≡ b7 x
  since7 = same_below b7 b8 (a + 96) (8 * length f.slots) slots_apart

  since6 : (x : ℕ) → x < a + 92 → b8 x ≡ b6 x
  since6 x to = since7 x (omega arith) ∙ stays b6 b7 (a + 92) 4 f.count x count (inl to)

  since5 : (x : ℕ) → x < a + 88 → b8 x ≡ b5 x
  since5 x to = since6 x (omega arith) ∙ stays b5 b6 (a + 88) 4 f.func x func (inl to)

  since4 : (x : ℕ) → x < a + 84 → b8 x ≡ b4 x
  since4 x to = since5 x (omega arith) ∙ stays b4 b5 (a + 84) 4 f.callback x callback (inl to)

  since3 : (x : ℕ) → x < a + 80 → b8 x ≡ b3 x
  since3 x to = since4 x (omega arith) ∙ stays b3 b4 (a + 80) 4 f.entry x entry (inl to)

  since2 : (x : ℕ) → x < a + 72 → b8 x ≡ b2 x
  since2 x to = since3 x (omega arith) ∙ stays b2 b3 (a + 72) 8 f.flags x flags (inl to)

  since1 : (x : ℕ) → x < a + 64 → b8 x ≡ b1 x
  since1 x to = since2 x (omega arith) ∙ stays b1 b2 (a + 64) 8 f.ip x ip (inl to)

  frame-written : f.ip < 2 ^ 64 → f.flags < 2 ^ 64 → f.entry < 2 ^ 32 → f.callback < 2 ^ 32 → f.func < 2 ^ 32 → f.count < 2 ^ 32
      → frame_at b8 a ≡ f
  unfolding frame_at
  frame-written s1 s2 s3 s4 s5 s6 =
      let regs_is : words_at b8 a 8 ≡ f.regs = words-agree b1 b8 a 8 (λ x from to. since1 x (omega arith)) ∙ ap (words_at b1 a)
      (sym regs_long) ∙ regs in
      let ip_is = stands b1 b2 b8 (a + 64) 8 f.ip ip (λ x to. since2 x (omega arith)) (omega arith) in
      let flags_is = stands b2 b3 b8 (a + 72) 8 f.flags flags (λ x to. since3 x (omega arith)) (omega arith) in
      let entry_is = stands b3 b4 b8 (a + 80) 4 f.entry entry (λ x to. since4 x (omega arith)) (omega arith) in
      let callback_is = stands b4 b5 b8 (a + 84) 4 f.callback callback (λ x to. since5 x (omega arith)) (omega arith) in
      let func_is = stands b5 b6 b8 (a + 88) 4 f.func func (λ x to. since6 x (omega arith)) (omega arith) in
      let count_is = stands b6 b7 b8 (a + 92) 4 f.count count (λ x to. since7 x (omega arith)) (omega arith) in
      let slots_is : words_at b8 (a + 96) 16 ≡ f.slots = ap (words_at b8 (a + 96)) (sym slots_long) ∙ slots in
      λ i. record {
        regs = regs_is i;
        ip = ip_is i;
        flags = flags_is i;
        entry = entry_is i;
        callback = callback_is i;
        func = func_is i;
        count = count_is i;
        slots = slots_is i;
      }

  frame-apart : SameApart o b8 a 224
  unfolding SameApart
  frame-apart = λ x apart. ⊎_elim
      (λ low. since1 x (omega arith) ∙ regs_apart x (inl low))
      (λ high. slots_apart x (inr (omega (arith, slots_long))) ∙ stays b6 b7 (a + 92) 4 f.count x count (inr (omega arith))
      ∙ stays b5 b6 (a + 88) 4 f.func x func (inr (omega arith)) ∙ stays b4 b5 (a + 84) 4 f.callback x callback (inr (omega arith))
      ∙ stays b3 b4 (a + 80) 4 f.entry x entry (inr (omega arith)) ∙ stays b2 b3 (a + 72) 8 f.flags x flags (inr (omega arith))
      ∙ stays b1 b2 (a + 64) 8 f.ip x ip (inr (omega arith)) ∙ regs_apart x (inr (omega (arith, regs_long))))
      apart

  -- the frame is there, and nothing else changed
  pub written_frame : f.ip < 2 ^ 64 → f.flags < 2 ^ 64 → f.entry < 2 ^ 32 → f.callback < 2 ^ 32 → f.func < 2 ^ 32 → f.count < 2 ^ 32
      → (frame_at b8 a ≡ f) × SameApart o b8 a 224
  written_frame s1 s2 s3 s4 s5 s6 = (frame-written s1 s2 s3 s4 s5 s6, frame-apart)
