-- The lesser of two that may be missing, by an order. It assumes nothing.
use Rattle.std.specs.Prelude.{cond, Some, None, Option}
use Rattle.std.specs.Ordering.{is_gt}
use Rattle.std.specs.declared.cmp.Ordering.{Ordering}

-- of none and one, the one; of two that the order does not part, the first
abbrev pub lesser_of : {T : Type 0} → (T → T → Ordering) → Option T → Option T → Option T
lesser_of order None b = b
lesser_of order (Some x) None = Some x
lesser_of order (Some x) (Some y) = cond (is_gt (order x y)) (Some y) (Some x)
