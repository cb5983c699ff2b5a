-- `tables::fill_tables` meets its contract: each table is filled after the ones before it. Assumes nothing.
use Rattle.tables.proofs.PartFills.{are_lent, u_inside, v_inside, fill_1, fill_2, fill_3, fill_4, four_filled}
use Rattle.tables.proofs.fill_tables.Goals as goal

pub fill_itself-after_first-requires : goal.fill_itself-after_first-requires
fill_itself-after_first-requires c =
    let lent = are_lent c.letters.invariant c.letters.view_is in
    fill_1 _ _ _ _ _ lent c.requires c.u-u.ensures.piece c.v-v.ensures.piece c.backward-u_back.ensures c.backward-v_back.ensures

pub fill_itself-after_second-requires : goal.fill_itself-after_second-requires
fill_itself-after_second-requires c =
    let lent = are_lent c.letters.invariant c.letters.view_is in
    fill_2 _ _ _ _ _ lent c.requires c.u-u.ensures.piece c.v-v.ensures.piece c.backward-u_back.ensures c.backward-v_back.ensures c.fill_itself-after_first.ensures

pub fill-after_third-requires : goal.fill-after_third-requires
fill-after_third-requires c =
    let lent = are_lent c.letters.invariant c.letters.view_is in
    fill_3 _ _ _ _ _ lent c.requires c.u-u.ensures.piece c.v-v.ensures.piece c.backward-u_back.ensures c.backward-v_back.ensures c.fill_itself-after_first.ensures
    c.fill_itself-after_second.ensures c.letters-third.ensures.number c.against.ensures

pub fill-requires : goal.fill-requires
fill-requires c =
    let lent = are_lent c.letters.invariant c.letters.view_is in
    fill_4 _ _ _ _ _ lent c.requires c.u-u.ensures.piece c.v-v.ensures.piece c.backward-u_back.ensures c.backward-v_back.ensures c.fill_itself-after_first.ensures
    c.fill_itself-after_second.ensures c.letters-third.ensures.number c.against.ensures c.fill-after_third.ensures c.against-2.ensures

pub returns : goal.returns
returns c =
    let lent = are_lent c.letters.invariant c.letters.view_is in
    four_filled _ _ _ _ _ lent c.requires c.u-u.ensures.piece c.v-v.ensures.piece c.backward-u_back.ensures c.backward-v_back.ensures c.fill_itself-after_first.ensures
    c.fill_itself-after_second.ensures c.letters-third.ensures.number c.against.ensures c.fill-after_third.ensures c.against-2.ensures c.fill.ensures

pub backward-u_back-requires : goal.backward-u_back-requires
backward-u_back-requires c =
    u_inside _ _ _ _ _ (are_lent c.letters.invariant c.letters.view_is) c.requires c.u-u.ensures.piece

pub backward-v_back-requires : goal.backward-v_back-requires
backward-v_back-requires c =
    v_inside _ _ _ _ _ (are_lent c.letters.invariant c.letters.view_is) c.requires c.v-v.ensures.piece
