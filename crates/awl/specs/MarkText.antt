-- What the bytes of a mark are. It assumes nothing.
use Rattle.std.specs.Prelude.{ℕ, Bool, ◌&&◌, List, length, ◌==◌, nat_le, slice_index}
use Rattle.std.specs.List.{prefix_len}
use Rattle.awl.specs.Alphabet.{in_class, is_capital}
use Rattle.awl.specs.declared.bytes.ByteClass.TheVariants.{MarkByte}

-- a capital, then up to five capitals or digits
abbrev pub is_mark : List ℕ → Bool
is_mark bs =
    (nat_le 1 (length bs) && nat_le (length bs) 6)
    && (is_capital (slice_index bs 0) && prefix_len (in_class MarkByte) bs == length bs)
