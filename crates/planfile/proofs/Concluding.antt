-- From what the parts of the reader know to what it answers and leaves.
use Rattle.std.proofs.Common.{◌≡◌, ℕ, ◌-◌, ◌<◌, ◌≤◌, List, [], ◌++◌, length, get_or, take, drop, replicate, Ok, Err, Result, sym, ap, ◌∙◌, subst, ap₂, arith}
use borrow.Rule.Slice.PartMut.{put_mid}
use Rattle.std.proofs.lemmas.List.{append-nil, length-drop, length-take-le, drop_all}
use Rattle.cores.specs.declared.ladder.Block.{Block}
use Rattle.planfile.specs.Cutting.{WholeOf, WholeRead}
use Rattle.planfile.specs.Files.{BadRecord, LeavesPlan, answer_to, blocks_left, no_block, outcome}
use Rattle.planfile.specs.Rules.{reading_of}
use Rattle.planfile.specs.declared.cause.Fault.{Fault}
use Rattle.planfile.specs.declared.whole.Whole.{Whole}
use Rattle.planfile.proofs.Outcomes.{bad_outcome, bad_file}

-- a file with a bad record is refused there
pub refused_whole : {places : ℕ} {file : List ℕ} (list : List Block) (bad : Fault) {answer : Result Whole Fault} → answer ≡ Err bad
    → ((i : ℕ) → get_or file i 0 < 256) → BadRecord places file bad → WholeRead places file list answer
refused_whole {places} {file} list bad is small at = subst (WholeRead places file list) (sym is) (bad_outcome places file small bad at, bad_file places file small bad at)

-- a list whose places from one on were all made zero
pub rest_zero : (list part : List Block) (n : ℕ) → n ≤ length list → part ≡ replicate (length (take (length list - n) (drop n list))) no_block
    → put_mid n (length list - n) list part ≡ take n list ++ replicate (length list - n) no_block
rest_zero list part n within zeros =
    let left = length list - n in
    let all : length (take left (drop n list)) ≡ left = length-take-le left (drop n list) (simp length-drop (omega arith)) in
    let over : drop left (drop n list) ≡ [] = drop_all left (drop n list) (simp length-drop (omega arith)) in
    ap (λ l. take n list ++ l) (ap₂ ◌++◌ (zeros ∙ ap (λ k. replicate k no_block) all) over ∙ append-nil (replicate left no_block))

-- an accepted file's blocks stand in front
pub blocks_here : (places : ℕ) (file : List ℕ) (list part : List Block) (whole : Whole) → WholeOf places file list whole → length list ≡ places
    → part ≡ replicate (length (take (length list - whole.filled) (drop whole.filled list))) no_block
    → put_mid whole.filled (length list - whole.filled) list part ≡ blocks_left places (outcome places file)
blocks_here places file list part whole known size zeros =
    let blocks = (reading_of known.entries).blocks in
    let count : length blocks ≡ whole.filled = ap length (sym known.blocks) ∙ length-take-le whole.filled list known.within in
    let left : length list - whole.filled ≡ places - length blocks = omega (arith, size, count) in
    rest_zero list part whole.filled known.within zeros
    ∙ ap₂ (λ front n. front ++ replicate n no_block) known.blocks left
    ∙ ap (blocks_left places) (sym known.accepted)

pub answer_here : (places : ℕ) (file : List ℕ) (list : List Block) (whole : Whole) → WholeOf places file list whole → Ok whole.layers ≡ answer_to (outcome places file)
answer_here places file list whole known = ap Ok known.layers ∙ ap answer_to (sym known.accepted)

pub plan_here : (places : ℕ) (file : List ℕ) (list : List Block) (whole : Whole) → WholeOf places file list whole → LeavesPlan (outcome places file) whole.plan
plan_here places file list whole known = subst (λ o. LeavesPlan o whole.plan) (sym known.accepted) known.plan
