-- The blocks of a store, as the walk of one block wants them.
use Rattle.std.proofs.Common.{◌≡◌, ℕ, ◌-◌, ◌<◌, true, false, List, length, get_or, is_some, Some, None, Option, sym, refl, ap, ◌∙◌, subst, arith}
use Rattle.std.proofs.lemmas.List.{length-map, get_or-map}
use Rattle.std.specs.Option.{option_map}
use Rattle.awl.specs.Written.{Operand, none, bit, span, timer, counter, data_place, byte_constant, double_constant, mark, block, data_block}
use Rattle.parser.specs.Statements.{Written}
use Rattle.awl.specs.declared.names.BlockName.{BlockName}
use Rattle.awl.specs.declared.statements.BlockEnd.{BlockEnd}
use Rattle.awl.specs.declared.statements.BlockEnd.TheVariants as end
use Rattle.awl.specs.declared.statements.JumpCondition.{JumpCondition}
use Rattle.awl.specs.declared.statements.JumpCondition.TheVariants as jump
use Rattle.awl.specs.declared.statements.Operation.{Operation}
use Rattle.awl.specs.declared.statements.Operation.TheVariants as operation
use Rattle.store.proofs.Holding.{slot_has_name, name_has_slot, block_found, text_readable}
use Rattle.store.specs.Held.{slot_of, name_at, text_at, blocks, Readable}
use Rattle.store.specs.declared.store.Store.{Store}
use Rattle.walk.proofs.Lowests.{none_some}
use Rattle.walk.specs.Flows.{jump_flow, goal_flow, choice_flow, end_flow, operation_flow, flow, flows}
use Rattle.walk.specs.Walk.{jumps_to, Fit}
use Rattle.walk.specs.declared.flows.Flow.{Flow}
use Rattle.walk.specs.declared.flows.Flow.TheVariants.{Stop}
use Rattle.checker.specs.Project.{project_of, Holds, flows_held, flows_in}

-- a jump goes where its statement's target is
jump_target : (c : JumpCondition) (t : Option ℕ) → jumps_to (jump_flow c t) ≡ t
jump_target jump.Always t = refl
jump_target jump.Rlo t = refl
jump_target jump.Zero t = refl
jump_target jump.NonZero t = refl
jump_target jump.Plus t = refl
jump_target jump.Minus t = refl
jump_target jump.Overflow t = refl

goal_target : (c : JumpCondition) (t : Option ℕ) (x : Operand) (n : ℕ) → jumps_to (goal_flow c t x) ≡ Some n → t ≡ Some n
goal_target c t (block k m) n e = absurd (none_some n e)
goal_target c t (mark m) n e = sym (jump_target c t) ∙ e
goal_target c t none n e = sym (jump_target c t) ∙ e
goal_target c t (bit a m y) n e = sym (jump_target c t) ∙ e
goal_target c t (span a w m) n e = sym (jump_target c t) ∙ e
goal_target c t (timer m) n e = sym (jump_target c t) ∙ e
goal_target c t (counter m) n e = sym (jump_target c t) ∙ e
goal_target c t (data_place p m) n e = sym (jump_target c t) ∙ e
goal_target c t (byte_constant m) n e = sym (jump_target c t) ∙ e
goal_target c t (double_constant z) n e = sym (jump_target c t) ∙ e
goal_target c t (data_block m) n e = sym (jump_target c t) ∙ e

choice_target : (x : Operand) → jumps_to (choice_flow x) ≡ None
choice_target (block k m) = refl
choice_target (mark m) = refl
choice_target none = refl
choice_target (bit a m y) = refl
choice_target (span a w m) = refl
choice_target (timer m) = refl
choice_target (counter m) = refl
choice_target (data_place p m) = refl
choice_target (byte_constant m) = refl
choice_target (double_constant z) = refl
choice_target (data_block m) = refl

end_target : (e : BlockEnd) → jumps_to (end_flow e) ≡ None
end_target end.End = refl
end_target end.Always = refl
end_target end.Rlo = refl

operation_target : (o : Operation) (t : Option ℕ) (x : Operand) (n : ℕ) → jumps_to (operation_flow o t x) ≡ Some n → t ≡ Some n
operation_target (operation.Jump c) t x n e = goal_target c t x n e
operation_target (operation.End b) t x n e = absurd (none_some n (sym (end_target b) ∙ e))
operation_target operation.ChooseData t x n e = absurd (none_some n (sym (choice_target x) ∙ e))
operation_target (operation.Open b) t x n e = absurd (none_some n e)
operation_target operation.Close t x n e = absurd (none_some n e)
operation_target operation.Stop t x n e = absurd (none_some n e)
operation_target (operation.Combine c) t x n e = absurd (none_some n e)
operation_target operation.Set t x n e = absurd (none_some n e)
operation_target operation.Reset t x n e = absurd (none_some n e)
operation_target operation.Assign t x n e = absurd (none_some n e)
operation_target operation.Load t x n e = absurd (none_some n e)
operation_target operation.LoadCoded t x n e = absurd (none_some n e)
operation_target operation.Transfer t x n e = absurd (none_some n e)
operation_target (operation.Start k) t x n e = absurd (none_some n e)
operation_target (operation.Count d) t x n e = absurd (none_some n e)
operation_target (operation.Calculate a) t x n e = absurd (none_some n e)
operation_target (operation.Compare c) t x n e = absurd (none_some n e)

-- a block that can be read is fit to be walked
pub readable_fit : (ws : List Written) → Readable ws → Fit (flows ws)
unfolding flows
readable_fit ws r =
    let long = length-map ws flow in
    let some = r.some in
    let few = r.few in
    record {
      some = omega arith;
      few = omega arith;
      aimed = λ s low high t e.
          let inside : s - 1 < length ws = omega arith in
          let d = get_or ws (s - 1) (record { operation = operation.Stop; operand = none; target = None }) in
          let is = get_or-map flow ws (s - 1) d Stop inside in
          let at = operation_target (get_or ws (s - 1) d).operation (get_or ws (s - 1) d).target (get_or ws (s - 1) d).operand t (sym (ap jumps_to is) ∙ e) in
          let a = r.aimed (s - 1) t d inside at in
          (a.0, (let h = a.1 in omega arith));
    }

module _ (s : Store) (i : ℕ) (b : BlockName) (named : name_at s i ≡ Some b) where
  -- the slot of a name is one of 32
  pub slot_low : i < 32
  slot_low = (slot_has_name s b i (name_has_slot s b i named)).0

  pub named_held : blocks s b ≡ Some (text_at s i)
  named_held = block_found s b (Some i) (name_has_slot s b i named)

  -- the flows of a block, by its slot
  pub flows_at : flows_in (project_of s) b ≡ flows (text_at s i)
  flows_at = ap flows_held named_held

  pub named_holds : Holds (project_of s) b
  named_holds = ap is_some named_held

  -- every block of a store is fit to be walked
  pub fit_at : Fit (flows_in (project_of s) b)
  fit_at = subst (λ (l : List Flow). Fit l) (sym flows_at) (readable_fit (text_at s i) (text_readable s i b named))

pub some_is : {X : Type 0} (o : Option X) → is_some o ≡ true → (x : X) × (o ≡ Some x)
some_is None e = absurd (let z : ◌≡◌ {A = ℕ} 0 1 = cc in omega arith)
some_is (Some x) e = (x, refl)

mapped_some : {X Y : Type 0} (f : X → Y) (o : Option X) → is_some (option_map f o) ≡ true → is_some o ≡ true
mapped_some f None e = e
mapped_some f (Some x) e = refl

-- a block that has a slot is held
pub slot_held : (s : Store) (b : BlockName) (i : ℕ) → slot_of s b ≡ Some i → Holds (project_of s) b
slot_held s b i e = named_holds s i b (slot_has_name s b i e).1

-- a block that is held has a slot
pub held_slot : (s : Store) (b : BlockName) → Holds (project_of s) b → (i : ℕ) × (slot_of s b ≡ Some i) × (name_at s i ≡ Some b)
held_slot s b h =
    let o = some_is (slot_of s b) (mapped_some (text_at s) (slot_of s b) (sym (ap is_some (block_found s b (slot_of s b) refl)) ∙ h)) in
    (o.0, o.1, (slot_has_name s b o.0 o.1).1)

pub none_is : {X : Type 0} (o : Option X) → is_some o ≡ false → o ≡ None
none_is None e = refl
none_is (Some x) e = absurd (let z : ◌≡◌ {A = ℕ} 0 1 = cc in omega arith)
