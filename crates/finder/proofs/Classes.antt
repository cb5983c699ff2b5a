-- The blocks of a class, put half by half. Assumes nothing.
use Prim.Native.Nat.{ℕ, ◌+◌, ◌≤◌, ◌<◌}
use mathlib.Core.Path.{◌≡◌, refl, sym, ap, ◌∙◌}
use mathlib.Core.List.{List, [], ◌++◌, append-nil, foldl-append, flat_map}
use native.Mathlib.Omega.{arith}
use native.Mathlib.Nat.{add_comm}
use lib.ListN.{length}
use Rattle.repetition.specs.Numbers.{consecutive}
use Rattle.repetition.proofs.Lists.{flat_map-append, consecutive-append, length-flat_map, length-consecutive, total_bound}
use Rattle.repetition.proofs.Bounds.{around_one}
use Rattle.finder.specs.declared.tally.Tally.{Tally}
use Rattle.finder.specs.declared.part_tables.PartTables.{PartTables}
use Rattle.finder.specs.declared.reading.Class.{Class}
use Rattle.finder.specs.Kept.{Kept, kept, put, put_all}
use Rattle.finder.specs.Reading.{most_of, read_half, read_first, read_all}
use Rattle.finder.specs.Reading.{CanReach, CanPutHalf, CanReadAll}
use Rattle.finder.proofs.Puts.{length-put_all, blocks_put_all}

module _ (T : PartTables) (κ : Class) where
  read_none : read_first T κ 0 ≡ []
  unfolding read_first consecutive
  read_none = refl

  read_next : (n : ℕ) → read_first T κ (n + 1) ≡ read_first T κ n ++ read_half T κ (n + 1)
  unfolding read_first consecutive
  read_next n = rw (consecutive-append 1 n 1, flat_map-append, one_half (1 + n)) (rw (add_comm 1 n))
    where
      one_half : (p : ℕ) → flat_map (read_half T κ) (consecutive p 1) ≡ read_half T κ p
      one_half p = append-nil _

  pub read_size : (n : ℕ) → length (read_first T κ n) ≤ n
  unfolding read_first
  read_size n =
      let e = length-flat_map (read_half T κ) (consecutive 1 n) in
      let l = total_bound (λ p. length (read_half T κ p)) 1 (consecutive 1 n) (λ p. around_one _ p _ _) in
      omega (arith, e, l, length-consecutive 1 n)

  module _ (report₀ : List ℕ) (y₀ : Tally) where
    -- all halves below one are put
    pub record Put (half : ℕ) (report : List ℕ) (y : Tally) : Type 0 where
      pub halves : ℕ
      pub next : half ≡ halves + 1
      pub most : halves ≤ most_of T κ
      pub puts : kept report y ≡ put_all (kept report₀ y₀) (read_first T κ halves)

    pub put_starts : Put 1 report₀ y₀
    put_starts = record { halves = 0; next = refl; most = omega arith; puts = sym (ap (put_all (kept report₀ y₀)) read_none) }

    module _ (can : CanReadAll T κ y₀) {half : ℕ} {report : List ℕ} {y : Tally} (so_far : Put half report y) where
      pub put_length : length report ≡ length report₀
      put_length =
          ap (λ (k : Kept). length k.report) so_far.puts
          ∙ length-put_all (kept report₀ y₀) (read_first T κ so_far.halves)

      put_blocks : y.blocks ≤ y₀.blocks + so_far.halves
      put_blocks =
          let bs = read_first T κ so_far.halves in
          let e = ap (λ (k : Kept). k.tally.blocks) so_far.puts ∙ blocks_put_all (kept report₀ y₀) bs in
          omega (arith, e, read_size so_far.halves)

      pub put_half : half ≤ most_of T κ → CanPutHalf T κ half y
      put_half l =
          let reaches : CanReach T κ half = record { nonempty = omega arith; most = l } in
          record { reaches = reaches; inside = can.inside half reaches; counts = omega (arith, put_blocks, can.counts) }

      pub put_next : half ≤ most_of T κ → {report' : List ℕ} {y' : Tally}
          → kept report' y' ≡ put_all (kept report y) (read_half T κ half) → Put (half + 1) report' y'
      put_next l f =
          let n = so_far.halves in
          record {
            halves = n + 1;
            next = omega arith;
            most = omega arith;
            puts =
                f ∙ rw (so_far.puts, so_far.next, read_next n)
                (sym (foldl-append put (kept report₀ y₀) (read_first T κ n) _));
          }

      pub put_ends : most_of T κ < half → kept report y ≡ put_all (kept report₀ y₀) (read_all T κ)
      put_ends l =
          so_far.puts
          ∙ ap (λ (m : ℕ). put_all (kept report₀ y₀) (read_first T κ m)) {x = so_far.halves} {y = most_of T κ} (omega arith)
