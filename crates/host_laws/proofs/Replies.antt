-- The reply step: a run that stands for a configuration stands for it after the reply.
use Rattle.host_laws.proofs.Common.{◌≡◌, ◌≢◌, ℕ, zero, suc, ◌+◌, ◌-◌, ◌*◌, ◌^◌, ◌<◌, ◌≤◌, Bool, true, false, if◌then◌else◌, nat_eq, List}
use Rattle.host_laws.proofs.Common.{[], ◌∷◌, ◌++◌, length, Option, Some, None, refl, sym, ap, ◌∙◌, subst, arith, ⊎_elim, slice_index}
use Rattle.host_laws.proofs.Common.{slice_set, AllZip, AllByRecursion, eq-eqb, cases_eq, length-set, get_or-set_same, get_or-set_other}
use Rattle.host_laws.proofs.Common.{IsWidth, Concrete, register, Store, Replies, written_number, after_stores, performed, copied}
use Rattle.host_laws.proofs.Common.{NativeCall, NoCall, Asked, Accepted, ScriptPlace, TypedObject, made_objects, placed_objects, Placement}
use Rattle.host_laws.proofs.Common.{stack_bytes, IsPlacement, SavedFrame, RunState, Event, Value, HostFrame, Frame, Function, Host, Config}
use Rattle.host_laws.proofs.Common.{call_under_way, with_call, with_value, addresses, total, Named, CallShows, HostShows, HostsShow}
use Rattle.host_laws.proofs.Common.{MachineStands, Stands, Neutral, Addresses, Shows, World, WorldFits, IsValue, value_shows, Extends}
use Rattle.host_laws.proofs.Common.{shows_more, end_small, StoreNames, width_word}
use Rattle.std.proofs.lemmas.Bool.{ne_eqb}
use Rattle.note_types.specs.Concrete.{with_register}
use Rattle.host_model.specs.HostSteps.{with_call as with_marks, call_under_way as marks_under_way}
use Rattle.note_types.specs.declared.types.Ty.{Ty}
use Rattle.neutral_machine.specs.{NeutralHost.performed as neutral_performed, Written.result_value}
use Rattle.host_laws.proofs.{Marks.extends_marked, Marks.machine_marked, Marks.machine_told, Things.named, Stores.stores_stand}
use Rattle.ebc_width.proofs.Laws.{by_width}
use Rattle.note_types.specs.declared.value.Value.TheVariants as value

-- ---- registers

-- by whether two numbers are one
pub by_eq : (r q : ℕ) (X : Bool → Type 0) → (r ≡ q → X true) → (r ≢ q → X false) → X (nat_eq r q)
by_eq r q X same other = ⊎_elim (λ e. subst X (sym (eq-eqb r q e)) (same e)) (λ n. subst X (sym (ne_eqb r q n)) (other n)) (cases_eq r q)

register_set : (s : Concrete) (r q y : ℕ) → length s.registers ≡ 8 → r < 8
    → register (with_register s q y) r ≡ (if nat_eq r q then y else register s r)
unfolding with_register
register_set s r q y eight l = by_eq r q (λ b. slice_index (slice_set s.registers q y) r ≡ (if b then y else slice_index s.registers r))
    (λ e. ap (λ i. slice_index (slice_set s.registers i y) r) (sym e) ∙ get_or-set_same s.registers r y 0 (omega (arith, eight, l)))
    (λ n. get_or-set_other s.registers q r y 0 n)

past_registers : (xs : List ℕ) (r : ℕ) → length xs ≤ r → slice_index xs r ≡ 0
past_registers [] r l = refl
past_registers (x ∷ xs) zero l = absurd (omega (arith, l))
past_registers (x ∷ xs) (suc r) l = past_registers xs r (omega (arith, l))

module _ (w : ℕ) (world : World) (P : Placement) (mapped : ℕ → ℕ) (h : IsWidth w) (ok : WorldFits world) (pl : IsPlacement w world P) where
  -- a value in R7
  result_stands : (but : Option ℕ) (a : Config) (s : Concrete) (v : Neutral) (y : ℕ) → MachineStands w world P mapped but a s
      → Shows w (addresses w world.notes P a.frames) v y → y < 2 ^ 64
      → MachineStands w world P mapped but (record a { registers = with_value a.registers 7 v }) (with_register s 7 y)
  unfolding with_register
  result_stands but a s v y st sh l =
      record {
        eight = length-set s.registers 7 y ∙ st.eight;
        words = λ r. by_eq r 7 (λ b. register (with_register s 7 y) r < 2 ^ 64)
            (λ e. subst (λ q. register (with_register s 7 y) q < 2 ^ 64) (sym e)
            (subst (λ q. q < 2 ^ 64) (sym (register_set s 7 7 y st.eight (omega arith))) l))
            (λ n. subst (λ q. q < 2 ^ 64) (sym (get_or-set_other s.registers 7 r y 0 n)) (st.words r));
        small = st.small;
        registers = λ r p m. subst (Shows w (addresses w world.notes P a.frames) (with_value a.registers 7 v r))
            (sym (register_set s r 7 y st.eight m))
            (by_eq r 7 (λ b. Shows w (addresses w world.notes P a.frames) (if b then v else a.registers r) (if b then y else register s r))
            (λ e. sh) (λ n. st.registers r p m));
        locals = st.locals;
        top = register_set s 0 7 y st.eight (omega arith) ∙ st.top;
        frames = st.frames;
        cells = st.cells;
        thunks = st.thunks;
        code = st.code;
        objects = st.objects;
        flags = st.flags;
        gate = st.gate;
        spot = st.spot;
      }

  -- ---- numbers of written values

  number_small : (made : List TypedObject) (A : Addresses) → Named w world.notes P made A → (v : Value) → IsValue world.notes v
      → written_number w world.notes P made v < 2 ^ 64
  unfolding written_number
  number_small made A ok (value.Int n) l = l
  number_small made A ok (value.StatusOk k) l = omega (arith, l)
  number_small made A ok (value.StatusError k) l = by_width (λ u. 2 ^ (8 * u - 1) + k < 2 ^ 64) w h (omega (arith, l)) (omega (arith, l))
  number_small made A ok (value.Handle k) l = let a = ok.area in let s = width_word w h in omega (arith, l, a, s)
  number_small made A ok (value.Entry f) l = let a = ok.area in let s = width_word w h in omega (arith, l, a, s)
  number_small made A ok (value.Method m) l = let a = ok.area in let s = width_word w h in omega (arith, l, a, s)
  number_small made A ok (value.Wild x) l = l
  number_small made A ok t l = omega arith

  result_shows : (made : List TypedObject) (A : Addresses) → Named w world.notes P made A → (kind : Option Ty) (v : Value)
      → IsValue world.notes v → Shows w A (result_value world.notes made kind v) (written_number w world.notes P made v)
  result_shows made A n None v l = tt
  result_shows made A n (Some t) v l = value_shows w world.notes P made A n t v l

  -- ---- frames of the host

  pub call_more : (A B : Addresses) (c : NativeCall Neutral) (d : NativeCall ℕ) → Extends A B → CallShows w A c d → CallShows w B c d
  call_more A B NoCall NoCall e s = tt
  call_more A B (Asked p v) (Asked q x) e s = (s.0, shows_more w A B v x e s.1)
  call_more A B (Accepted k n vs) (Accepted f m xs) e s = (s.0, s.1, all vs xs s.2)
    where
      all : (us : List Neutral) (ys : List ℕ) → AllZip (Shows w A) us ys → AllZip (Shows w B) us ys
      all [] [] z = tt
      all [] (y ∷ ys) z = z
      all (u ∷ us) [] z = z
      all (u ∷ us) (y ∷ ys) z = (shows_more w A B u y e z.0, all us ys z.1)
  call_more A B c t e s = s

  host_more : (A B : Addresses) (top : ℕ) (k : HostFrame) (s : SavedFrame) → Extends A B → HostShows w world P A top k s
      → HostShows w world P B top k s
  host_more A B top k s e g = record {
    func = g.func;
    notified = g.notified;
    eight = g.eight;
    words = g.words;
    top_is = g.top_is;
    flags = g.flags;
    spot = g.spot;
    registers = λ r l m. shows_more w A B (k.saved r) _ e (g.registers r l m);
    call = call_more A B k.call s.call e g.call;
  }

  pub hosts_more : (A B : Addresses) (fs : List Frame) (ss : List SavedFrame) → Extends A B → HostsShow w world P A fs ss
      → HostsShow w world P B fs ss
  hosts_more A B [] [] e s = tt
  hosts_more A B [] (x ∷ ss) e s = s
  hosts_more A B (Function f ∷ fs) ss e s = hosts_more A B fs ss e s
  hosts_more A B (Host k ∷ fs) [] e s = s
  hosts_more A B (Host k ∷ fs) (x ∷ ss) e s = (host_more A B _ k x e s.0, hosts_more A B fs ss e s.1)

  -- other marks
  pub hosts_marked : (A : Addresses) (c : NativeCall Neutral) (d : NativeCall ℕ) (fs : List Frame) (ss : List SavedFrame)
      → CallShows w A c d → HostsShow w world P A fs ss → HostsShow w world P A (with_call c fs) (with_marks d ss)
  hosts_marked A c d [] [] m s = tt
  hosts_marked A c d [] (x ∷ ss) m s = absurd s
  hosts_marked A c d (Function f ∷ fs) ss m s = hosts_marked A c d fs ss m s
  hosts_marked A c d (Host k ∷ fs) [] m s = absurd s
  hosts_marked A c d (Host k ∷ fs) (x ∷ ss) m s = (
    record {
      func = s.0.func;
      notified = s.0.notified;
      eight = s.0.eight;
      words = s.0.words;
      top_is = s.0.top_is;
      flags = s.0.flags;
      spot = s.0.spot;
      registers = s.0.registers;
      call = m;
    },
    s.1,
  )

  -- the marks of the top frame show
  pub marks_show : (A : Addresses) (fs : List Frame) (ss : List SavedFrame) → HostsShow w world P A fs ss
      → CallShows w A (call_under_way fs) (marks_under_way ss)
  marks_show A [] [] s = tt
  marks_show A [] (x ∷ ss) s = absurd s
  marks_show A (Function f ∷ fs) ss s = marks_show A fs ss s
  marks_show A (Host k ∷ fs) [] s = absurd s
  marks_show A (Host k ∷ fs) (x ∷ ss) s = s.0.call

  pub copied_show : (A : Addresses) (c : NativeCall Neutral) (d : NativeCall ℕ) → CallShows w A c d
      → AllZip (Shows w A) (copied c) (copied d)
  copied_show A NoCall NoCall s = tt
  copied_show A (Asked p v) (Asked q x) s = tt
  copied_show A (Accepted k n vs) (Accepted f m xs) s = s.2
  copied_show A c t s = absurd s

  -- ---- the reply

  made_is : (a : Config) (r : RunState) → Stands w world P mapped a r
      → made_objects world.notes world.script r.script.entries ≡ made_objects world.notes world.script a.script.entries
  unfolding made_objects placed_objects
  made_is a r st = ap (λ (p : ScriptPlace). made_objects world.notes world.script p.entries) st.script

  pub reply_stands : (a : Config) (r : RunState) (e : Event) (stores : List Store) (kind : Option Ty) (v : Value)
      → total w a.frames ≤ stack_bytes w world.notes → Stands w world P mapped a r
      → AllByRecursion (StoreNames world a (copied (call_under_way a.frames))) stores → IsValue world.notes v
      → Stands w world P mapped (neutral_performed world a (Replies e stores kind v)) (performed w world P r (Replies e stores kind v))
  unfolding neutral_performed performed made_objects placed_objects
  reply_stands a r e stores kind v room st names fits =
      let made = made_objects world.notes world.script a.script.entries in
      let A = addresses w world.notes P a.frames in
      let N = named w world P h ok pl a.script.entries a.frames in
      let us = copied (call_under_way a.frames) in
      let xs = copied (marks_under_way r.hosts) in
      let shown = copied_show A (call_under_way a.frames) (marks_under_way r.hosts) (marks_show A a.frames r.hosts st.hosts) in
      let stored = stores_stand w world P mapped h ok pl stores a r.machine None made us xs refl room st.machine shown names in
      let valued = result_stands None _ _ (result_value world.notes made kind v) (written_number w world.notes P made v) stored
      (result_shows made A N kind v fits) (number_small made A N v fits) in
      let marked = machine_marked NoCall w world P mapped h (end_small w world P h ok pl) None _ _ valued in
      let same = made_is a r st in
      record {
        machine = subst (λ m. MachineStands w world P mapped None (neutral_performed world a (Replies e stores kind v))
            (with_register (after_stores w world.notes P m xs stores r.machine) 7 (written_number w world.notes P m v))) (sym same)
            (machine_told w world P mapped None _ _ (a.trace ++ e ∷ []) a.ending marked);
        hosts = hosts_marked _ NoCall NoCall a.frames r.hosts tt
            (hosts_more A _ a.frames r.hosts (extends_marked NoCall w world P mapped a.frames) st.hosts);
        script = st.script;
        trace = ap (λ t. t ++ e ∷ []) st.trace;
        ending = st.ending;
      }
