mod Emptied
