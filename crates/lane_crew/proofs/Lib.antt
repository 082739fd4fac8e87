-- lanes that go away as tasks, and come back
mod Returning
-- a giver is divided among tasks, and comes together again
mod Dividing
