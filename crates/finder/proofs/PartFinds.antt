-- A part is found: its tables are filled, and its right and left blocks are put. Assumes nothing.
use Prim.Native.Nat.{ℕ, ◌*◌, ◌≤◌}
use mathlib.Core.Path.{◌≡◌, sym, ap, subst, ◌∙◌}
use mathlib.Core.List.{List, [], ◌∷◌, foldl-append}
use native.Mathlib.Omega.{arith}
use lib.ListN.{length}
use Rattle.repetition.specs.Cutting.{Part, right, left}
use Rattle.repetition.specs.Blocks.{class_blocks, part_blocks}
use Rattle.tables.specs.Parts.{letters, with_tables, CanFillPart}
use Rattle.tables.specs.Promises.{TablesPromise}
use Rattle.tables.proofs.Parts.{sizes, length-with_tables}
use Rattle.finder.specs.declared.tally.Tally.{Tally}
use Rattle.finder.specs.declared.part_tables.PartTables.{PartTables}
use Rattle.finder.specs.declared.reading.Class.TheVariants.{Right, Left}
use Rattle.finder.specs.Kept.{Kept, kept, compared, put, put_all, found}
use Rattle.finder.specs.Reading.{StandIn, read_all, most_of, CanReadAll}
use Rattle.finder.specs.Finding.{CanFindPart, Finds}
use Rattle.finder.proofs.Puts.{blocks_put_all}
use Rattle.finder.proofs.Classes.{read_size}
use Rattle.finder.proofs.TableBlocks.{table_sizes, class_is, inside}

module _ (t work : List ℕ) (q : Part) (y : Tally) (can : CanFindPart t work q y) where
  pub can_fill : CanFillPart t work q y.comparisons
  can_fill = record { placed = can.placed; fits = can.counts.comparisons_fit }

  module _ {count : ℕ} {tables : List ℕ} (filled : TablesPromise t work q y.comparisons count tables) where
    pub can_read : 2 * letters q ≤ length tables
    can_read = rw (filled.leaves_work, length-with_tables t work q can.placed) can.placed.room

    module _ {y₁ : Tally} (takes : y₁ ≡ compared y count) (T : PartTables) (stand : StandIn tables q T) where
      stand_with : StandIn (with_tables t q work) q T
      stand_with = subst (λ (w : List ℕ). StandIn w q T) filled.leaves_work stand

      pub can_right : CanReadAll T Right y₁
      can_right =
          record {
            inside = inside t work q can.placed T stand_with Right;
            counts = rw takes (omega (arith, can.counts, table_sizes t work q can.placed T stand_with));
          }

      module _ (report : List ℕ) {report₁ : List ℕ} {y₂ : Tally}
          (rights : kept report₁ y₂ ≡ put_all (kept report y₁) (read_all T Right)) where
        pub can_left : CanReadAll T Left y₂
        can_left =
            let blocks = read_all T Right in
            let e = ap (λ (k : Kept). k.tally.blocks) rights ∙ blocks_put_all (kept report y₁) blocks in
            let l = read_size T Right (most_of T Right) in
            let z = table_sizes t work q can.placed T stand_with in
            record {
              inside = inside t work q can.placed T stand_with Left;
              counts = omega (arith, e, l, z, ap (λ (x : Tally). x.blocks) takes, can.counts, sizes t work q can.placed);
            }

        pub part_found : {report₂ : List ℕ} {y₃ : Tally}
            → kept report₂ y₃ ≡ put_all (kept report₁ y₂) (read_all T Left)
            → Finds t work report (q ∷ []) y y₃ tables report₂
        unfolding found part_blocks
        part_found lefts =
            record {
              keeps =
                  lefts ∙ rw (rights, takes, filled.counts)
                  (rw (class_is t work q can.placed T stand_with Right, class_is t work q can.placed T stand_with Left)
                  (sym (foldl-append put _ (class_blocks t right q) (class_blocks t left q))));
              leaves_work = filled.leaves_work;
            }
