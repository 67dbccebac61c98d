-- What a feed shows, from its first moment on and after each advance. Assumes nothing.
use Rattle.std.specs.Prelude.{ℕ, zero, suc, ◌-◌, cond, List, [], ◌∷◌, length, drop, replicate, vec_items, nat_lt, slice_index_or}
use Rattle.hosts.specs.declared.feed.Feed.{Feed}
use Rattle.hosts.specs.declared.frames.Frame.{Frame}
use Rattle.hosts.specs.Frames.{frames}
use Rattle.hosts.specs.Meaning.{Meaning, image_of}

-- A feed of these inputs, elapsed time and outputs: four bytes wide, and it takes every one of them.
abbrev pub feed_of : List ℕ → ℕ → List ℕ → Meaning
feed_of inputs elapsed outputs = image_of 4 inputs elapsed outputs

-- What a feed means.
abbrev pub feed_meaning : Feed → Meaning
feed_meaning s = feed_of s.image.inputs s.image.elapsed s.image.outputs

-- Where a feed stands: the frames still ahead, and the time and inputs that it shows.
pub record Standing : Type 0 where
  pub ahead : List Frame
  pub elapsed : ℕ
  pub inputs : List ℕ

-- The frames ahead are those of the lines that it has not read yet.
abbrev pub standing : Feed → Standing
standing s = record { ahead = frames (drop s.at (vec_items s.text)); elapsed = s.image.elapsed; inputs = s.image.inputs }

-- Four bytes of 0.
abbrev pub zeros : List ℕ
zeros = replicate 4 0

-- At first every frame is ahead, no time has elapsed and the inputs are 0.
abbrev pub start : List Frame → Standing
start fs = record { ahead = fs; elapsed = 0; inputs = zeros }

-- The first of the frames ahead is taken; with none ahead the inputs stay, and no time elapses.
abbrev pub taken_from : List Frame → List ℕ → Standing
taken_from [] inputs = record { ahead = []; elapsed = 0; inputs = inputs }
taken_from (f ∷ fs) inputs = record { ahead = fs; elapsed = f.elapsed; inputs = f.inputs }

-- An advance takes the next frame from where the feed stands.
abbrev pub fed : Standing → Standing
fed s = taken_from s.ahead s.inputs

-- The frame at a place, counted from 0; no such frame is no time and inputs of 0.
abbrev pub frame_at : List Frame → ℕ → Frame
frame_at fs k = slice_index_or fs k (record { elapsed = 0; inputs = zeros })

-- Where a feed stands after k advances over these frames: before the first as it starts, then at frame number k as long
-- as there is one, and past the last at that one's inputs with no time.
abbrev pub shown : List Frame → ℕ → Standing
shown fs zero = start fs
shown fs (suc k) =
    cond (nat_lt k (length fs))
    (record { ahead = drop (suc k) fs; elapsed = (frame_at fs k).elapsed; inputs = (frame_at fs k).inputs })
    (record { ahead = []; elapsed = 0; inputs = (frame_at fs (length fs - 1)).inputs })
