-- A cell may go to another thread, and be shared among threads. What is sent or shared is so in parts: the trees of
-- running tasks hold themselves, so each type that has them is taken in a step of its own.
use denote.Param.Send.{IsSend, IsSync, sendable, view_send, view_sync}
use Rattle.std.proofs.Crossing.{Box-send, Box-sync, Vec-send, Vec-sync}
use Rattle.std.specs.contracts.alloc.Global as Heap
use Rattle.std.specs.contracts.impls.GlobalAllocator.TheImpl.{ghosts}
use Rattle.std.specs.contracts.vec.Vec as Vec
use Rattle.omega_board.specs.contracts.board.Board as Board
use Rattle.omega_cell.specs.contracts.cell.Cell as Cell
use Rattle.omega_cell.proofs.effects.Notes.TheSendSync as notes
use Rattle.omega_machines.proofs.table.MachineTable.TheSendSync as machines
use Rattle.omega_model.proofs.entries.Entry.TheSendSync as entry
use Rattle.omega_running.proofs.nodes.Tree.TheLaws.TheKnot.{send-Node, send-Tree, sync-Node, sync-Tree}
use Rattle.omega_running.specs.contracts.forest.Forest as Forest
use Rattle.omega_running.specs.contracts.forest.Forest.TheInside as Trees
use Rattle.omega_running.specs.contracts.nodes.Node as Node
use Rattle.omega_running.specs.contracts.nodes.Tree as Tree
use Rattle.omega_running.specs.contracts.table.Pair as Pair
use Rattle.omega_running.specs.contracts.table.Running as Running
use Rattle.omega_running.specs.contracts.table.Running.TheInside as Inside

-- the trees of running tasks
tree_send : IsSend (Tree.the_field).row
tree_send = search (send-Tree, Box-send, sendable) depth 20

node_send : IsSend Node.the_row
node_send = search (send-Tree, send-Node, Box-send, sendable) depth 40

pair_send : IsSend Pair.the_row
pair_send = search (node_send, Box-send, sendable) depth 20

pairs_send : IsSend (Vec.the_row Pair.the_row Heap.the_row ghosts)
pairs_send = Vec-send Pair.the_row pair_send

whole_tree_send : IsSend Tree.the_row
whole_tree_send = search (send-Tree, Box-send, sendable) depth 40

trees_send : IsSend (Vec.the_row Tree.the_row Heap.the_row ghosts)
trees_send = Vec-send Tree.the_row whole_tree_send

forest_inside_send : IsSend Trees.the_row
forest_inside_send = search (trees_send, sendable) depth 20

forest_send : IsSend Forest.the_row
forest_send = view_send _ _ _ _ _ forest_inside_send

inside_send : IsSend Inside.the_row
inside_send = search (forest_send, pairs_send, sendable) depth 20

running_send : IsSend Running.the_row
running_send = view_send _ _ _ _ _ inside_send

-- a board
board_send : IsSend Board.the_row
board_send = search (machines.the_send, running_send, sendable) depth 20

-- a cell
pub cell_send : IsSend Cell.the_row
cell_send = search (board_send, entry.the_send, notes.the_send, Vec-send, sendable) depth 20

-- what is looked at may be shared: the trees of running tasks
tree_sync : IsSync (Tree.the_field).row
tree_sync = search (sync-Tree, Box-sync, sendable) depth 20

node_sync : IsSync Node.the_row
node_sync = search (sync-Tree, sync-Node, Box-sync, sendable) depth 40

pair_sync : IsSync Pair.the_row
pair_sync = search (node_sync, Box-sync, sendable) depth 20

pairs_sync : IsSync (Vec.the_row Pair.the_row Heap.the_row ghosts)
pairs_sync = Vec-sync Pair.the_row pair_sync

whole_tree_sync : IsSync Tree.the_row
whole_tree_sync = search (sync-Tree, Box-sync, sendable) depth 40

trees_sync : IsSync (Vec.the_row Tree.the_row Heap.the_row ghosts)
trees_sync = Vec-sync Tree.the_row whole_tree_sync

forest_inside_sync : IsSync Trees.the_row
forest_inside_sync = search (trees_sync, sendable) depth 20

forest_sync : IsSync Forest.the_row
forest_sync = view_sync _ _ _ _ _ forest_inside_sync

running_inside_sync : IsSync Inside.the_row
running_inside_sync = search (forest_sync, pairs_sync, sendable) depth 20

running_sync : IsSync Running.the_row
running_sync = view_sync _ _ _ _ _ running_inside_sync

-- a board
board_sync : IsSync Board.the_row
board_sync = search (machines.the_sync, running_sync, sendable) depth 20

-- a cell
pub cell_sync : IsSync Cell.the_row
cell_sync = search (board_sync, entry.the_sync, notes.the_sync, Vec-sync, sendable) depth 20
