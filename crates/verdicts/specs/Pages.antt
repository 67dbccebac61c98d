-- What is said of a project file. It assumes nothing.
use Rattle.std.specs.Prelude.{◌≡◌, ℕ, Bool, false, List, ◌++◌, None, Ok, Err, string_bytes, codes, decimal, Result}
use Rattle.projects.specs.Origins.{line_of}
use Rattle.projects.specs.Sections.{Cut, section_named}
use Rattle.projects.specs.Told.{file_report}
use Rattle.projects.specs.declared.sections.FileFault.{FileFault}
use Rattle.checker.specs.Counts.{Counts}
use Rattle.checker.specs.Verdicts.{Verdict, Judges, is_pass}
use Rattle.store.specs.declared.store.Store.{Store}
use Rattle.verdicts.specs.Found.{found_report}
use Rattle.verdicts.specs.Loading.{Held, held, load_answer, load_after}
use Rattle.verdicts.specs.Rejected.{rejected_report}
use Rattle.verdicts.specs.declared.loading.Rejected.{Rejected}
use Rattle.verdicts.specs.declared.pages.Judged.{Judged}
use Rattle.verdicts.specs.declared.pages.Page.{Page}
use Rattle.verdicts.specs.declared.pages.Sizes.{Sizes}

-- a page has a text, and says whether the file passes
abbrev pub Says : Page → List ℕ → Bool → Type 0
Says p text passed = (string_bytes p.text ≡ text) × (p.passed ≡ passed)

-- what is held at first
abbrev pub empty : Held
empty = record { written = λ _. None; count = 0; words = λ _. None; laid = 0 }

-- how many blocks are held, and how many statements are on the walk
abbrev pub passed_text : Sizes → List ℕ
passed_text n =
    codes "passed: "
    ++ (decimal n.blocks ++ (codes " blocks, " ++ (decimal n.walked ++ codes " statements on the walk\n")))

-- a pass with its sizes, or the first fault with its line in the file
abbrev pub said : Verdict → Sizes → List Cut → List ℕ → List ℕ
said (Ok pass) n cs file = passed_text n
said (Err f) n cs file = found_report f (line_of f.statement (section_named f.block cs)) file

abbrev pub verdict_text : Judged → List Cut → List ℕ → List ℕ
verdict_text j cs file = said j.verdict j.sizes cs file

-- how many statements are on the walk of what a store holds
abbrev pub WalkedIn : Held → ℕ → Type 0
WalkedIn h n = (s : Store) × (held s ≡ h) × Counts s n

-- a page on what a store holds: of the verdict that its walk makes right, with the number of blocks and of statements on the
-- walk
abbrev pub JudgedPage : Page → Held → List Cut → List ℕ → Type 0
JudgedPage p h cs file =
    (j : Judged)
    × Judges (record { blocks = h.written; data_blocks = h.words }) j.verdict
    × (j.sizes.blocks ≡ h.count)
    × WalkedIn h j.sizes.walked
    × Says p (verdict_text j cs file) (is_pass j.verdict)

-- a page on some sections: the first that is refused, or else the verdict on what they put into an empty store
abbrev pub CutPage : Page → Result (Unit {0}) Rejected → List Cut → List ℕ → Type 0
CutPage p (Err r) cs file = Says p (rejected_report r file) false
CutPage p (Ok _) cs file = JudgedPage p (load_after empty cs) cs file

-- the page on a file: that it cannot be cut, or what is said of its sections
abbrev pub PageOf : Page → Result (List Cut) FileFault → List ℕ → Type 0
PageOf p (Err f) file = Says p (file_report f file) false
PageOf p (Ok cs) file = CutPage p (load_answer empty cs) cs file
