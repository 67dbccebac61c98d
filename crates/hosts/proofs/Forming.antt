-- Which texts hold frame lines alone, and what is left of one behind its first line.
use Rattle.std.proofs.Common.{◌≡◌, ℕ, ◌+◌, ◌<◌, Bool, ◌&&◌, not, ◌==◌, leb, ltb, List, [], ◌∷◌, length, take, drop, sym, refl, ap, ◌∙◌, arith}
use Rattle.std.specs.List.{list_all, enumerate_from}
use Rattle.std.proofs.lemmas.Bool.{le-leb, lt-ltb}
use Rattle.std.proofs.lemmas.List.{drop-drop}
use Rattle.std.proofs.lemmas.List.Folds.{length-prefix_len}
use Rattle.lines.specs.Lines.{lines_of}
use Rattle.lines.proofs.Cutting.{size, line_cut}
use Rattle.hosts.specs.Frames.{well_formed, formed_from, formed_byte, accepted}

-- the bytes of a line are in place if each is, with its place
pub formed_places : (place : ℕ) (cs : List ℕ) → list_all (λ (p : ℕ × ℕ). formed_byte p.0 p.1) (enumerate_from place cs) ≡ formed_from place cs
formed_places place [] = refl
formed_places place (c ∷ cs) = ap (λ b. formed_byte place c && b) (formed_places (place + 1) cs)

-- a text has a line exactly if it has a byte
some_line : (t : List ℕ) → leb 1 (length (lines_of t)) ≡ ltb 0 (length t)
some_line [] = refl
some_line (c ∷ cs) = le-leb 1 _ (omega (arith, ap length (line_cut (c ∷ cs) (omega arith)))) ∙ sym (lt-ltb 0 _ (omega arith))

pub all_formed : (t : List ℕ) (r : Bool) → 0 < length t → r ≡ list_all well_formed (lines_of t) → r ≡ accepted t
all_formed t r h e = e ∙ sym (ap (λ b. b && list_all well_formed (lines_of t)) (some_line t ∙ lt-ltb 0 _ h))

-- what is left behind the first line
behind : (t l : List ℕ) (ls : List (List ℕ)) → lines_of t ≡ l ∷ ls → ls ≡ lines_of (drop (length l + 1) t)
behind [] l ls h = cc
behind (c ∷ cs) l ls h =
    let t = c ∷ cs in
    let cut = line_cut t (omega arith) in
    let first : l ≡ take (size t) t = cc in
    let long : length l ≡ size t = ap length first ∙ length-prefix_len (λ b. not (b == 10)) t in
    rw long cc

pub next_lines : (t l : List ℕ) (ls : List (List ℕ)) (at : ℕ) → lines_of (drop at t) ≡ l ∷ ls → ls ≡ lines_of (drop (at + length l + 1) t)
next_lines t l ls at h =
    let far : at + (length l + 1) ≡ at + length l + 1 = omega arith in
    behind (drop at t) l ls h ∙ ap lines_of (drop-drop (length l + 1) at t) ∙ ap (λ n. lines_of (drop n t)) far
