-- The flows of a block's statements, one by one.
use Rattle.std.proofs.Common.{◌≡◌, ℕ, ◌-◌, ◌<◌, ◌≤◌, List, map, length, get_or, sym, ap, ◌∙◌, arith}
use Rattle.std.proofs.lemmas.List.{length-map, get_or-map}
use Rattle.parser.specs.Statements.{written}
use Rattle.awl.specs.declared.statements.Statement.{Statement}
use Rattle.walk.specs.Flows.{flow, flows, flows_of}
use Rattle.walk.specs.Places.{fault_of, fault_at}
use Rattle.walk.specs.Walk.{flow_at}
use Rattle.walk.specs.declared.flows.Flow.{Flow}
use Rattle.walk.specs.declared.flows.Flow.TheVariants.{Stop}
use Rattle.walk.specs.declared.places.Place.{Place}

pub length-flows : (xs : List Statement) → length (flows_of xs) ≡ length xs
unfolding flows
length-flows xs = length-map (map written xs) flow ∙ length-map xs written

-- the flow of a statement, by the statement that stands there
pub flow_read : (xs : List Statement) (s : ℕ) (x : Statement) → 1 ≤ s → s ≤ length xs → flow_at (flows_of xs) s ≡ flow (written (get_or xs (s - 1) x))
unfolding flows
flow_read xs s x low high =
    let l : s - 1 < length xs = omega arith in
    let m : s - 1 < length (map written xs) = omega (arith, length-map xs written) in
    get_or-map flow (map written xs) (s - 1) (written x) Stop m ∙ ap flow (get_or-map written xs (s - 1) x (written x) l)

-- a place's fault, by the flow that was read and the statements behind it
pub fault_read : (xs : List Statement) (p : Place) (x : Flow) → x ≡ flow_at (flows_of xs) p.statement → fault_of x p.brackets (length xs - p.statement) ≡ fault_at (flows_of xs) p
fault_read xs p x e =
    ap (λ (y : Flow). fault_of y p.brackets (length xs - p.statement)) e
    ∙ ap (λ (n : ℕ). fault_of (flow_at (flows_of xs) p.statement) p.brackets (n - p.statement)) (sym (length-flows xs))
