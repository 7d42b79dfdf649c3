-- The line of a sheet and the line of a task, piece by piece. Assumes nothing.
use Rattle.std.proofs.Common.{◌≡◌, ℕ, List, [], ◌∷◌, ◌++◌, codes, sym, ap, ◌∙◌, append_assoc, append-nil, arith}
use mathlib.Core.List.{append_cancel_left}
use Rattle.bounded.specs.declared.list.Bounded.{Bounded}
use Rattle.grammar.specs.Forms.{Items, none, more, renders, line, Ends, IsLetter, IsNumber}
use Rattle.grammar.proofs.Runs.{write_form, write_more}
use Rattle.fields.specs.Wanted.{numerals, field, sheet_form, Written, task_form, AreNumbers, IsTask}
use Rattle.fields.specs.Values.{HasTask}
use Rattle.fields.specs.Pieces.{Took, HasValue, HasValues, field_bytes, list_bytes}
use Rattle.fields.proofs.Pieces.{NoField, NoList}

-- the bytes of the lines as pieces

more_list : (w : List ℕ) (ns : List (List ℕ)) (is : Items) (t : List ℕ) → renders (more (field w ns) is) ++ t ≡ 32 ∷ (40 ∷ (w ++ ((renders (numerals ns) ++ 41 ∷ []) ++ (renders is ++ t))))
more_list w ns is t =
    write_more (field w ns) is t ∙ ap (λ l. 32 ∷ l) (write_form w (numerals ns) (renders is ++ t) ∙ ap (λ l. 40 ∷ (w ++ l)) (sym (append_assoc (renders (numerals ns)) (41 ∷ []) (renders is ++ t))))

more_one : (w ds : List ℕ) (is : Items) (t : List ℕ) → renders (more (field w (ds ∷ [])) is) ++ t ≡ 32 ∷ (40 ∷ (w ++ 32 ∷ ((ds ++ 41 ∷ []) ++ (renders is ++ t))))
more_one w ds is t = more_list w (ds ∷ []) is t ∙ ap (λ l. 32 ∷ (40 ∷ (w ++ 32 ∷ ((l ++ 41 ∷ []) ++ (renders is ++ t))))) (append-nil ds)

-- the end of the form and of the line
abbrev end : List ℕ
end = 41 ∷ 10 ∷ []

sheet_line : (ds : List ℕ) → line (sheet_form ds) ≡ (40 ∷ codes "sheet") ++ (field_bytes (codes "cores") ds ++ end)
sheet_line ds =
    write_form (codes "sheet") (more (field (codes "cores") (ds ∷ [])) none) (10 ∷ []) ∙ ap (λ l. (40 ∷ codes "sheet") ++ l) (more_one (codes "cores") ds none end)

-- what stands in a task line from each field on

abbrev from_points : Written → List ℕ
from_points w = list_bytes (codes "points") w.points ++ end

abbrev from_blocks : Written → List ℕ
from_blocks w = list_bytes (codes "blocks") w.blocks ++ from_points w

abbrev from_deadline : Written → List ℕ
from_deadline w = field_bytes (codes "deadline") w.deadline ++ from_blocks w

abbrev from_period : Written → List ℕ
from_period w = field_bytes (codes "period") w.period ++ from_deadline w

abbrev from_id : Written → List ℕ
from_id w = field_bytes (codes "id") w.id ++ from_period w

task-line : (w : Written) → line (task_form w) ≡ (40 ∷ codes "task") ++ from_id w
task-line w =
    let points : Items = more (field (codes "points") w.points) none in
    let blocks : Items = more (field (codes "blocks") w.blocks) points in
    let deadline : Items = more (field (codes "deadline") (w.deadline ∷ [])) blocks in
    let period : Items = more (field (codes "period") (w.period ∷ [])) deadline in
    let id : Items = more (field (codes "id") (w.id ∷ [])) period in
    write_form (codes "task") id (10 ∷ []) ∙ ap (λ l. (40 ∷ codes "task") ++ l)
    (more_one (codes "id") w.id period end ∙ ap (λ l. field_bytes (codes "id") w.id ++ l)
    (more_one (codes "period") w.period deadline end ∙ ap (λ l. field_bytes (codes "period") w.period ++ l)
    (more_one (codes "deadline") w.deadline blocks end ∙ ap (λ l. field_bytes (codes "deadline") w.deadline ++ l)
    (more_list (codes "blocks") w.blocks points end ∙ ap (λ l. list_bytes (codes "blocks") w.blocks ++ l)
    (more_list (codes "points") w.points none end)))))

abbrev OneField : List ℕ → List ℕ → ℕ → List ℕ → Type 0
OneField name r v r' = Took (field_bytes name) IsNumber HasValue r v r'

abbrev ListField : List ℕ → List ℕ → Bounded ℕ 17 → List ℕ → Type 0
ListField name r k r' = Took (list_bytes name) AreNumbers HasValues r k r'

-- the exits of cores_of

abbrev NoSheet : List ℕ → Type 0
NoSheet bs = (ds : List ℕ) → IsNumber ds → bs ≡ line (sheet_form ds) → ⊥

pub sheet_word : (bs : List ℕ) → ((t : List ℕ) → Ends IsLetter t → bs ≡ (40 ∷ codes "sheet") ++ t → ⊥) → NoSheet bs
sheet_word bs never ds l e = never _ (λ h. omega (arith, h.0)) (e ∙ sheet_line ds)

-- the exits of task_of

abbrev NoTask : List ℕ → Type 0
NoTask bs = (w : Written) → IsTask w → bs ≡ line (task_form w) → ⊥

pub task_word : (bs : List ℕ) → ((t : List ℕ) → Ends IsLetter t → bs ≡ (40 ∷ codes "task") ++ t → ⊥) → NoTask bs
task_word bs never w l e = never _ (λ h. omega (arith, h.0)) (e ∙ task-line w)

module _ (bs r0 : List ℕ) (s : bs ≡ (40 ∷ codes "task") ++ r0) where
  at_id : (w : Written) → bs ≡ line (task_form w) → r0 ≡ from_id w
  at_id w e = append_cancel_left ((40 ∷ codes "task")) r0 (from_id w) (sym s ∙ e ∙ task-line w)

  module _ (v1 : ℕ) (r1 : List ℕ) (k1 : OneField (codes "id") r0 v1 r1) where
    at_period : (w : Written) → IsTask w → bs ≡ line (task_form w) → r1 ≡ from_period w
    at_period w l e = k1.forced w.id (from_period w) l.id (at_id w e)

    pub task_period : NoField (codes "period") r1 → NoTask bs
    task_period never w l e = never w.period (from_deadline w) l.period (at_period w l e)

    module _ (v2 : ℕ) (r2 : List ℕ) (k2 : OneField (codes "period") r1 v2 r2) where
      at_deadline : (w : Written) → IsTask w → bs ≡ line (task_form w) → r2 ≡ from_deadline w
      at_deadline w l e = k2.forced w.period (from_deadline w) l.period (at_period w l e)

      pub task_deadline : NoField (codes "deadline") r2 → NoTask bs
      task_deadline never w l e = never w.deadline (from_blocks w) l.deadline (at_deadline w l e)

      module _ (v3 : ℕ) (r3 : List ℕ) (k3 : OneField (codes "deadline") r2 v3 r3) where
        at_blocks : (w : Written) → IsTask w → bs ≡ line (task_form w) → r3 ≡ from_blocks w
        at_blocks w l e = k3.forced w.deadline (from_blocks w) l.deadline (at_deadline w l e)

        pub task_blocks : NoList (codes "blocks") r3 → NoTask bs
        task_blocks never w l e = never w.blocks (from_points w) l.blocks (at_blocks w l e)

        module _ (v4 : Bounded ℕ 17) (r4 : List ℕ) (k4 : ListField (codes "blocks") r3 v4 r4) where
          at_points_lem : (w : Written) → IsTask w → bs ≡ line (task_form w) → r4 ≡ from_points w
          at_points_lem w l e = k4.forced w.blocks (from_points w) l.blocks (at_blocks w l e)

          pub task_points : NoList (codes "points") r4 → NoTask bs
          task_points never w l e = never w.points end l.points (at_points_lem w l e)

          module _ (v5 : Bounded ℕ 17) (r5 : List ℕ) (k5 : ListField (codes "points") r4 v5 r5) where
            pub task_end : (r5 ≡ end → ⊥) → NoTask bs
            task_end never w l e = never (k5.forced w.points end l.points (at_points_lem w l e))

            pub task_took : r5 ≡ end → (w : Written) × IsTask w × HasTask w (record { id = v1; period = v2; deadline = v3; blocks = v4; points = v5 }) × (bs ≡ line (task_form w))
            task_took e =
                let w : Written = record { id = k1.of; period = k2.of; deadline = k3.of; blocks = k4.of; points = k5.of } in
                let e4 : r4 ≡ from_points w = k5.is ∙ ap (λ l. list_bytes (codes "points") k5.of ++ l) e in
                let e3 : r3 ≡ from_blocks w = k4.is ∙ ap (λ l. list_bytes (codes "blocks") k4.of ++ l) e4 in
                let e2 : r2 ≡ from_deadline w = k3.is ∙ ap (λ l. field_bytes (codes "deadline") k3.of ++ l) e3 in
                let e1 : r1 ≡ from_period w = k2.is ∙ ap (λ l. field_bytes (codes "period") k2.of ++ l) e2 in
                let e0 : r0 ≡ from_id w = k1.is ∙ ap (λ l. field_bytes (codes "id") k1.of ++ l) e1 in (
                  w,
                  record { id = k1.lawful; period = k2.lawful; deadline = k3.lawful; blocks = k4.lawful; points = k5.lawful },
                  record { id = k1.means; period = k2.means; deadline = k3.means; blocks = k4.means; points = k5.means },
                  s ∙ ap (λ l. (40 ∷ codes "task") ++ l) e0 ∙ sym (task-line w),
                )
