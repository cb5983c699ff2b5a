-- The outcome of `put_output` is determined by its promise: any two outcomes that meet it are equal. Assumes nothing.
use Prim.Native.Nat.{ℕ}
use mathlib.Core.Path.{◌≡◌}
use mathlib.Core.List.{List}
use Rattle.listing.specs.Promises.{OutputPromise}

pub one_output : {t out out_left out_left' : List ℕ} → OutputPromise t out out_left → OutputPromise t out out_left'
    → out_left ≡ out_left'
one_output x y = cc
