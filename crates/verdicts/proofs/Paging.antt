-- The page on the sections of a file. Assumes nothing.
use Rattle.std.proofs.Common.{◌≡◌, ℕ, List, IfOk, Ok, Result, ap, ◌∙◌, subst}
use Rattle.projects.specs.Sections.{Cut}
use Rattle.verdicts.specs.Loading.{Held, load_answer, load_after}
use Rattle.verdicts.specs.Pages.{empty, JudgedPage, CutPage}
use Rattle.verdicts.specs.declared.loading.Rejected.{Rejected}
use Rattle.verdicts.specs.declared.pages.Page.{Page}

-- sections that are all granted are judged as what they put into an empty store
pub all_granted : {E : Type 0} (r : Result Page E) (h k : Held) (cs : List Cut) (file : List ℕ) → h ≡ empty → Ok tt ≡ load_answer h cs → k ≡ load_after h cs → IfOk r (λ p. JudgedPage p k cs file) → IfOk r (λ p. CutPage p (load_answer empty cs) cs file)
all_granted r h k cs file e a l j =
    let there : k ≡ load_after empty cs = l ∙ ap (λ (x : Held). load_after x cs) e in
    let granted : Ok tt ≡ load_answer empty cs = a ∙ ap (λ (x : Held). load_answer x cs) e in
    let of-held : IfOk r (λ p. JudgedPage p (load_after empty cs) cs file) = subst (λ (x : Held). IfOk r (λ p. JudgedPage p x cs file)) there j in
    subst (λ (x : Result (Unit {0}) Rejected). IfOk r (λ p. CutPage p x cs file)) granted of-held
